-- What is read of a lent matrix: of doubles, of bits, and of the doubles that bits stand for.
use Prim.Native.Nat.{ℕ, zero, suc, ◌+◌, ◌*◌, ◌/◌, ◌%◌, ◌≤◌, ◌<◌}
use mathlib.Core.Path.{◌≡◌, refl, sym, ap, ◌∙◌}
use mathlib.Core.Bool.{Bool, true, false}
use mathlib.Core.List.{List, [], ◌∷◌}
use native.Mathlib.Nat.{mul-le-mul, mul-add-div_right, mul-add-mod_self_right, div-eq_of_lt, mod-eq_of_lt}
use native.Mathlib.Omega.{arith}
use lib.Dec.{eqb, eqb-suc-zero}
use lib.ListN.{length}
use lib.IntN.{pos}
use lib.Ieee.{Float, nan, fin, le}
use Rattle.seq.specs.Choice.{pick}
use Rattle.seq.specs.Sums.{at}
use Rattle.seq.proofs.Every.{every_holds}
use Rattle.seq.proofs.Filling.{length-tab, get_or-tab, room}
use Rattle.ieee.specs.Magnitude.{abs_of}
use Rattle.limits.specs.Limits.{bounded}
use Rattle.limits.specs.Matrix.{columns_of}
use Rattle.limits.specs.Votes.{bit_at, bytes_of, votes_of, expanded}
use Rattle.limits.specs.Reading.{read_of, Whole}

pub no_zero : (k : ℕ) → 0 < k → eqb k 0 ≡ false
no_zero zero h = absurd (omega arith)
no_zero (suc k) h = eqb-suc-zero k

pub no_bits : (bits : List ℕ) → length bits ≡ 0 → bits ≡ []
no_bits [] e = refl
no_bits (b ∷ bits) e = absurd (omega arith)

module _ (matrix : List Float) (bits : List ℕ) (n : ℕ) where
  pub reads_doubles : length bits ≡ 0 → (j i : ℕ) → read_of matrix bits n j i ≡ columns_of matrix n j i
  reads_doubles e j i = ap (λ (k : ℕ). pick (eqb k 0) (columns_of matrix n j i) (votes_of bits n j i)) e

  pub reads_votes : 0 < length bits → (j i : ℕ) → read_of matrix bits n j i ≡ votes_of bits n j i
  reads_votes h j i = ap (λ (z : Bool). pick z (columns_of matrix n j i) (votes_of bits n j i)) (no_zero (length bits) h)

module _ (bits : List ℕ) (m n : ℕ) where
  pub length-expanded : length (expanded bits m n) ≡ m * n
  unfolding expanded
  length-expanded = length-tab (λ k. votes_of bits n (k / n) (k % n)) (m * n)

  -- the doubles that bits stand for are read as the bits are
  pub expanded-at : (j i : ℕ) → j < m → i < n → columns_of (expanded bits m n) n j i ≡ votes_of bits n j i
  unfolding expanded
  expanded-at j i h l =
      let some : 0 < n = omega arith in
      let q : (j * n + i) / n ≡ j = mul-add-div_right some j i ∙ ap (λ (z : ℕ). j + z) (div-eq_of_lt l) ∙ omega arith in
      let r : (j * n + i) % n ≡ i = mul-add-mod_self_right j n i ∙ mod-eq_of_lt l in
      get_or-tab (λ k. votes_of bits n (k / n) (k % n)) (m * n) (j * n + i) nan (omega (arith, room j m n h)) ∙ rw (q, r) refl

  -- each of them is a vote
  pub entry_is : (k : ℕ) → k < m * n → at (expanded bits m n) k ≡ votes_of bits n (k / n) (k % n)
  unfolding expanded
  entry_is k h = get_or-tab (λ k. votes_of bits n (k / n) (k % n)) (m * n) k nan h

  -- and at most as large as a vote is
  pub expanded-bounded : (most : Float) → ((set : Bool) → le (abs_of (fin set 1 (pos 0))) most ≡ true) → bounded most (expanded bits m n) ≡ true
  expanded-bounded most within =
      every_holds (λ k. le (abs_of (at (expanded bits m n) k)) most) (length (expanded bits m n))
      (λ k h. rw (entry_is k (rw length-expanded at h)) (within (bit_at bits (8 * (k / n * bytes_of n) + k % n))))

-- with a column and a row there is a byte
pub some_byte : (m n : ℕ) → 0 < m → 0 < n → 0 < m * bytes_of n
some_byte m n h l =
    let byte : 1 ≤ bytes_of n = omega arith in
    let area : 1 * 1 ≤ m * bytes_of n = mul-le-mul h byte in
    omega (arith, area)

-- with no byte there is no entry
no_area : (m n : ℕ) → m * bytes_of n ≡ 0 → 0 ≡ m * n
no_area zero n e = omega arith
no_area (suc m) zero e = omega arith
no_area (suc m) (suc n) e = absurd (omega (arith, some_byte (suc m) (suc n) (omega arith) (omega arith)))

-- m columns of n bits, with no doubles beside them
module _ (bits : List ℕ) (m n : ℕ) (area : length bits ≡ m * bytes_of n) where
  -- are a whole matrix
  pub bits-whole : Whole [] bits m n
  bits-whole = record { doubles = λ e. no_area m n (sym area ∙ e); votes = λ h. area }

  -- and are read as the doubles are that they stand for
  pub reads_expanded : (j i : ℕ) → j < m → i < n → read_of [] bits n j i ≡ columns_of (expanded bits m n) n j i
  reads_expanded j i h l =
      let some : 0 < length bits = omega (arith, some_byte m n (omega arith) (omega arith)) in
      reads_votes [] bits n some j i ∙ sym (expanded-at bits m n j i h l)
