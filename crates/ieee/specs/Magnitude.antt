-- What Rust has for a double's magnitude, sign and order, on the values of IEEE 754.
use Rattle.std.specs.Prelude.{ℕ, zero, suc, Bool, false, not, pos, Float}
use Rattle.std.specs.Float.{nan, inf, fin}
use Rattle.std.specs.Float.Ieee.{is_nan, lt}
use Rattle.seq.specs.Choice.{pick}
use Rattle.seq.specs.Sums.{plus_zero}

-- the sign dropped; a NaN stays a NaN
abbrev pub abs_of : Float → Float
abs_of nan = nan
abs_of (inf s) = inf false
abs_of (fin s m e) = fin false m e

-- 1.0 with the sign of x, which a zero has too; a NaN stays a NaN
abbrev pub signum_of : Float → Float
signum_of nan = nan
signum_of (inf s) = fin s 1 (pos 0)
signum_of (fin s m e) = fin s 1 (pos 0)

-- lo where x is below it, hi where x is above it, and x otherwise; a NaN stays a NaN
unfoldable pub clamp_of : Float → Float → Float → Float
clamp_of x lo hi = pick (lt x lo) lo (pick (lt hi x) hi x)

-- the larger; where one is a NaN the other, and of equal ones the first
unfoldable pub larger_of : Float → Float → Float
larger_of x y = pick (is_nan x) y (pick (lt x y) y x)

-- the smaller, likewise
unfoldable pub smaller_of : Float → Float → Float
smaller_of x y = pick (is_nan x) y (pick (lt y x) y x)

-- the largest of v 0, .., v (k - 1) and +0.0, each NaN skipped
unfoldable pub largest_to : (ℕ → Float) → ℕ → Float
largest_to v zero = fin false 0 (pos 0)
largest_to v (suc k) = let r : Float = largest_to v k in larger_of r (v k)

-- the largest magnitude of v 0, .., v (k - 1) from +0.0, each NaN skipped
unfoldable pub max_abs_to : (ℕ → Float) → ℕ → Float
max_abs_to v zero = plus_zero
max_abs_to v (suc k) = larger_of (max_abs_to v k) (abs_of (v k))

-- a stands above b by magnitude: a NaN above all else, and no NaN above another
unfoldable pub above_of : Float → Float → Bool
above_of nan b = not (is_nan b)
above_of (inf s) b = lt (abs_of b) (inf false)
above_of (fin s m e) b = lt (abs_of b) (fin false m e)
