-- Equality but for the sign of a zero.
use Rattle.std.specs.Prelude.{zero, suc, ◌≡◌, Bool, true, false, pos, Float}
use Rattle.std.specs.Float.{nan, inf, fin}

-- every zero becomes +0.0
abbrev pub flat : Float → Float
flat nan = nan
flat (inf s) = inf s
flat (fin s zero e) = fin false zero (pos zero)
flat (fin s (suc m) e) = fin s (suc m) e

-- equal, or both zeros
pub record Alike (x y : Float) : Type 0 where
  pub flatly : flat x ≡ flat y

-- +0.0 or -0.0
abbrev pub is_zero : Float → Bool
is_zero nan = false
is_zero (inf s) = false
is_zero (fin s zero e) = true
is_zero (fin s (suc m) e) = false

-- -0.0
abbrev pub is_minus_zero : Float → Bool
is_minus_zero nan = false
is_minus_zero (inf s) = false
is_minus_zero (fin s zero e) = s
is_minus_zero (fin s (suc m) e) = false
