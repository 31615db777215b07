-- A value as its sign and its size in units of the format's smallest value, which every value of the format is a whole number of.
use Rattle.std.specs.Prelude.{ℕ, suc, ◌+◌, ◌*◌, ◌/◌, ◌^◌, Bool, true, false, Float}
use Rattle.std.specs.Float.{nan, inf, fin, Format}
use Rattle.std.specs.Float.Ieee.{low, emax, up, down}

-- the sign: whether it is negative; a NaN has none, and counts as not negative
abbrev pub sign : Float → Bool
sign nan = false
sign (inf s) = s
sign (fin s m e) = s

-- how many units: an infinity counts as 2 ^ (emax + 1), where the values that overflow start
abbrev pub mag : Format → Float → ℕ
mag f nan = 0
mag f (inf s) = 2 ^ (low f + suc (emax f))
mag f (fin s m e) = m * up e * 2 ^ low f / down e

-- any value but a NaN
abbrev pub is_num : Float → Bool
is_num nan = false
is_num (inf s) = true
is_num (fin s m e) = true
