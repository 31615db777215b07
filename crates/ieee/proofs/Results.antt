-- The larger of two, and the largest of many, have what all have; so they are values of the format, where all are.
use Prim.Native.Nat.{ℕ, zero, suc, ◌<◌}
use native.Mathlib.Nat.{le_trans, le-suc, lt-suc_self}
use mathlib.Core.Bool.{Bool, true, false}
use lib.IntN.{pos}
use lib.Dec.{T}
use lib.Ieee.{Float, fin, Format, fits, is_nan, lt}
use Rattle.seq.specs.Choice.{pick}
use Rattle.ieee.specs.Magnitude.{larger_of, largest_to}
use Rattle.ieee.proofs.Signs.{nought-finite}

-- ---- a choice between two has what both have
picked : (P : Float → Type 0) (t : Bool) {x y : Float} → P x → P y → P (pick t x y)
picked P true p q = p
picked P false p q = q

-- the larger and the smaller have what both have
pub larger_has : (P : Float → Type 0) (x y : Float) → P x → P y → P (larger_of x y)
unfolding larger_of
larger_has P x y p q = picked P (is_nan x) q (picked P (lt x y) q p)

pub largest_has : (P : Float → Type 0) (v : ℕ → Float) (k : ℕ) → P (fin false 0 (pos 0)) → ((j : ℕ) → j < k → P (v j)) → P (largest_to v k)
unfolding largest_to
largest_has P v zero z h = z
largest_has P v (suc k) z h = larger_has P (largest_to v k) (v k) (largest_has P v k z (λ j l. h j (le_trans l (le-suc k)))) (h k (lt-suc_self k))

pub larger_fits : (f : Format) (x y : Float) → T (fits f x) → T (fits f y) → T (fits f (larger_of x y))
larger_fits f x y p q = larger_has (λ (z : Float). T (fits f z)) x y p q

pub largest_fits : (f : Format) (v : ℕ → Float) (k : ℕ) → ((j : ℕ) → j < k → T (fits f (v j))) → T (fits f (largest_to v k))
largest_fits f v k h = largest_has (λ (z : Float). T (fits f z)) v k (nought-finite f false).held h
