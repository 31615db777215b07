-- The changes of what is not refused: values of the format, as many as there are rows, and no NaN.
use Prim.Native.Nat.{ℕ, suc, ◌+◌, ◌*◌, ◌≤◌, ◌<◌}
use mathlib.Core.Path.{◌≡◌, refl, sym, subst}
use mathlib.Core.List.{List}
use native.Mathlib.Nat.{mul-le-mul_right}
use native.Mathlib.Omega.{arith}
use native.Mathlib.Decide.{dec_lt}
use lib.Dec.{T}
use lib.ListN.{length, get_or-eq_default}
use lib.Ieee.{Float, nan, binary64, fits}
use lib.Ieee.Fits.{nan-fits}
use Rattle.seq.specs.Sums.{at}
use Rattle.seq.proofs.Filling.{length-tab, get_or-tab}
use Rattle.ieee.proofs.Ops.{finite_number}
use Rattle.limits.specs.Matrix.{columns_of}
use Rattle.limits.proofs.Bounded.{bounded_at}
use Rattle.ieee.specs.Constants.{one}
use Rattle.change.specs.Margins.{change_to}
use Rattle.marking.specs.Moved.{Numbers}
use Rattle.movefaults.specs.Changes.{changes_of, Taken}
use Rattle.movefaults.specs.Answers.{lent_changes}
use Rattle.moving.proofs.Bounds.{UpTo, one_up, change_up}

module _ (matrix : ℕ → ℕ → Float) (m n : ℕ) (before after : List Float) where
  pub length_changes : length (changes_of matrix m n before after) ≡ n
  unfolding changes_of
  length_changes = length-tab (λ i. change_to matrix before after i m) n

  pub changes_at_lem : (i : ℕ) → i < n → at (changes_of matrix m n before after) i ≡ change_to matrix before after i m
  unfolding changes_of
  changes_at_lem i h = get_or-tab (λ i. change_to matrix before after i m) n i nan h

-- the place of row i of column j
in_matrix : (m n j i : ℕ) → j < m → i < n → j * n + i < m * n
in_matrix m n j i h l = let e : suc j * n ≤ m * n = mul-le-mul_right n h in omega arith

module _ (matrix : List Float) (m n : ℕ) (before after : List Float) (t : Taken matrix m n before after)
    (fu : (i : ℕ) → T (fits binary64 (at matrix i))) (fb : (i : ℕ) → T (fits binary64 (at before i))) (fa : (i : ℕ) → T (fits binary64 (at after i))) where
  change_bounded : (i : ℕ) → i < n → UpTo binary64 (m + m) (change_to (columns_of matrix n) before after i m)
  change_bounded i h =
      change_up (columns_of matrix n) before after i m t.lent.few
      (λ j l. one_up (at matrix (j * n + i)) (fu (j * n + i))
      (bounded_at one matrix t.entries (j * n + i) (omega (arith, in_matrix m n j i l h, t.lent.whole.doubles refl))))
      (λ j l. one_up (at before j) (fb j) (bounded_at one before t.old j (omega (arith, t.first))))
      (λ j l. one_up (at after j) (fa j) (bounded_at one after t.new j (omega (arith, t.second))))

  at-bounded : (i : ℕ) → i < n → UpTo binary64 (m + m) (at (lent_changes matrix m n before after) i)
  at-bounded i h = subst (UpTo binary64 (m + m)) (sym (changes_at_lem (columns_of matrix n) m n before after i h)) (change_bounded i h)

  pub changes_numbers : Numbers (lent_changes matrix m n before after)
  changes_numbers = record { num = λ i h. (finite_number (at-bounded i (omega (arith, length_changes (columns_of matrix n) m n before after))).ends).num }

  pub changes_fit : (i : ℕ) → T (fits binary64 (at (lent_changes matrix m n before after) i))
  changes_fit i = go (dec_lt i n)
    where
      go : Dec (i < n) → T (fits binary64 (at (lent_changes matrix m n before after) i))
      go (yes l) = (at-bounded i l).ends.held
      go (no l) =
          subst (λ x. T (fits binary64 x))
          (sym (get_or-eq_default (lent_changes matrix m n before after) nan {n = i} (omega (arith, length_changes (columns_of matrix n) m n before after))))
          (nan-fits binary64)
