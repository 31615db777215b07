-- The float sum of magnitudes: never a NaN, at least each magnitude, and of a lone entry its magnitude.
use mathlib.Core.Path.{◌≡◌, refl, sym, ap, ◌∙◌}
use mathlib.Core.Logic.{◌⊎◌, inl, inr}
use Prim.Native.Nat.{ℕ, zero, suc, ◌≤◌, ◌<◌}
use native.Mathlib.Nat.{le_trans, le-suc, lt-suc_self, le_of_eq, eq-or-lt_of_le}
use native.Mathlib.Omega.{arith}
use mathlib.Core.Bool.{false}
use lib.Dec.{T}
use lib.Ieee.{Float, Format, add}
use Rattle.seq.specs.Sums.{sum_from}
use Rattle.ieee.specs.Flat.{is_zero}
use Rattle.ieee.specs.Magnitude.{abs_of}
use Rattle.ieee.specs.Pass.{sum_up}
use Rattle.ieee.specs.Units.{mag}
use Rattle.ieee.proofs.Ops.{Finite, finite_number}
use Rattle.ieee.proofs.Signs.{nought}
use Rattle.ieee.proofs.Sums.{Size, abs_finite, abs_mag, abs_size, sum_ge, sum-size}
use Rattle.ieee.proofs.Flat.{add_commutes}
use Rattle.ieee.proofs.Zeros.{abs_not_minus, abs_zero, plus-nothing, plus_zero_lem, sum_fits, sum_never_minus}

-- the float sum of magnitudes
abbrev pub l1 : Format → (ℕ → Float) → ℕ → Float
l1 f w k = sum_up f (λ (j : ℕ). abs_of (w j)) k

-- never a NaN, never negative
pub l1-size : (f : Format) (w : ℕ → Float) (k : ℕ) → ((j : ℕ) → j < k → Finite f (w j)) → Size f (l1 f w k)
l1-size f w k h = sum-size f (λ (j : ℕ). abs_of (w j)) k (λ j l. abs_size (finite_number (h j l)))

-- at least each magnitude
pub l1_ge : (f : Format) (w : ℕ → Float) (k : ℕ) → ((j : ℕ) → j < k → Finite f (w j)) → (j : ℕ) → j < k → mag f (w j) ≤ mag f (l1 f w k)
l1_ge f w k h j l = le_trans (le_of_eq (sym (abs_mag f (w j)))) (sum_ge f (λ (i : ℕ). abs_of (w i)) k (λ i g. abs_size (finite_number (h i g))) j l)

-- ---- a lone entry: with zeros elsewhere the sum of magnitudes is its magnitude
none_yet : (f : Format) (w : ℕ → Float) (k : ℕ) → ((j : ℕ) → j < k → Finite f (w j)) → ((j : ℕ) → j < k → T (is_zero (w j))) → l1 f w k ≡ nought
unfolding sum_from
none_yet f w zero h z = refl
none_yet f w (suc k) h z =
    plus-nothing f (l1 f w k) (abs_of (w k)) (sum_fits f (λ (j : ℕ). abs_of (w j)) k) (abs_finite (h k (lt-suc_self k))).held
    (sum_never_minus f (λ (j : ℕ). abs_of (w j)) k (λ j l. (abs_finite (h j (le_trans l (le-suc k)))).held))
    (abs_zero (w k) (z k (lt-suc_self k)))
    ∙ none_yet f w k (λ j l. h j (le_trans l (le-suc k))) (λ j l. z j (le_trans l (le-suc k)))

pub lone_sum : (f : Format) (w : ℕ → Float) (k i : ℕ) → i < k → ((j : ℕ) → j < k → Finite f (w j)) → ((j : ℕ) → j < k → (j ≡ i → ⊥) → T (is_zero (w j)))
    → l1 f w k ≡ abs_of (w i)
unfolding sum_from
lone_sum f w zero i l h z = let b : ⊥ = omega arith in absurd b
lone_sum f w (suc k) i l h z = go (eq-or-lt_of_le (let g : i ≤ k = omega arith in g))
    (λ g. lone_sum f w k i g (λ j m. h j (le_trans m (le-suc k))) (λ j m. z j (le_trans m (le-suc k))))
  where
    go : (i ≡ k) ⊎ (i < k) → (i < k → l1 f w k ≡ abs_of (w i)) → add f (l1 f w k) (abs_of (w k)) ≡ abs_of (w i)
    go (inl e) ih =
        ap (λ (y : Float). add f y (abs_of (w k))) (none_yet f w k (λ j m. h j (le_trans m (le-suc k)))
        (λ j m. z j (le_trans m (le-suc k)) (λ q. let b : ⊥ = omega arith in b)))
        ∙ add_commutes f nought (abs_of (w k))
        ∙ plus_zero_lem f (abs_of (w k)) false (abs_finite (h k (lt-suc_self k))).held (abs_not_minus (w k))
        ∙ ap (λ (j : ℕ). abs_of (w j)) (sym e)
    go (inr g) ih =
        plus-nothing f (l1 f w k) (abs_of (w k)) (sum_fits f (λ (j : ℕ). abs_of (w j)) k) (abs_finite (h k (lt-suc_self k))).held
        (sum_never_minus f (λ (j : ℕ). abs_of (w j)) k (λ j m. (abs_finite (h j (le_trans m (le-suc k)))).held))
        (abs_zero (w k) (z k (lt-suc_self k) (λ q. let b : ⊥ = omega arith in b)))
        ∙ ih g
