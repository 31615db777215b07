-- The root of a value that is not negative is one too; where two values are equal but for the sign of a zero, so are their roots.
use mathlib.Core.Path.{◌≡◌, refl}
use Prim.Native.Nat.{ℕ, zero, suc, ◌+◌, ◌*◌, ◌^◌}
use mathlib.Core.Bool.{Bool, true, false, true≢false}
use lib.Dec.{T}
use lib.Ieee.{Float, nan, inf, fin, binary64, fits}
use lib.Ieee.Exact.{HasValue}
use lib.Ieee.Fits.{round-fits}
use lib.Ieee.Scale.{finite}
use Rattle.ieee.specs.Units.{sign, is_num}
use Rattle.ieee.specs.Flat.{flat, Alike}
use Rattle.root.specs.Root.{floor_root, sticky, root_of, sqrt_of}
use Rattle.ieee.proofs.Grid.{rounded}
use Rattle.ieee.proofs.Sums.{Size}
use Rattle.ieee.proofs.Alikes.{one}

-- what has a value is finite
pub finite_of_value : (x : Float) (s : Bool) (a c : ℕ) → HasValue x s a c → T (finite x)
finite_of_value nan s a c v = absurd v
finite_of_value (inf t) s a c v = absurd v
finite_of_value (fin t m e) s a c v = tt

pub root_fits : (n : ℕ) → T (fits binary64 (root_of n))
unfolding root_of
root_fits n = round-fits binary64 false (2 * floor_root (n * 4 ^ 54) + sticky (n * 4 ^ 54) (floor_root (n * 4 ^ 54))) (2 ^ 592)

root_rounded : (n : ℕ) → (T (is_num (root_of n))) × (sign (root_of n) ≡ false)
unfolding root_of
root_rounded n = let r = rounded binary64 false (2 * floor_root (n * 4 ^ 54) + sticky (n * 4 ^ 54) (floor_root (n * 4 ^ 54))) (2 ^ 592) in (r.number, r.signed)

pub sqrt_size : (x : Float) → Size binary64 x → Size binary64 (sqrt_of x)
unfolding sqrt_of
sqrt_size nan h = absurd h.number.num
sqrt_size (inf true) h = absurd (true≢false h.plus)
sqrt_size (inf false) h = h
sqrt_size (fin s zero e) h = h
sqrt_size (fin true (suc m) e) h = absurd (true≢false h.plus)
sqrt_size (fin false (suc m) e) h = record { number = record { held = root_fits _; num = (root_rounded _).0 }; plus = (root_rounded _).1 }

-- ---- equal but for the sign of a zero
sqrt_flat : (x : Float) → flat (sqrt_of x) ≡ flat (sqrt_of (flat x))
unfolding sqrt_of
sqrt_flat nan = refl
sqrt_flat (inf s) = refl
sqrt_flat (fin s zero e) = refl
sqrt_flat (fin s (suc m) e) = refl

pub sqrt_alike : {x y : Float} → Alike x y → Alike (sqrt_of x) (sqrt_of y)
sqrt_alike p = one sqrt_of sqrt_flat p
