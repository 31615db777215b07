-- Weights: which are not 0, their float sum of magnitudes, and the division by it. z is what a sum starts from.
use Rattle.std.specs.Prelude.{ℕ, Bool, ◌&&◌, List, length, Float}
use Rattle.std.specs.Float.{binary64}
use Rattle.std.specs.Float.Ieee.{div, ne, lt}
use Rattle.std.specs.Float.Ieee.Scale.{finite}
use Rattle.seq.specs.Lists.{tabulate}
use Rattle.seq.specs.Sums.{plus_zero, sum_to, at}
use Rattle.seq.specs.Keep.{count}
use Rattle.ieee.specs.Magnitude.{abs_of}

-- weight j is not 0
abbrev pub is_on : List Float → ℕ → Bool
is_on w j = ne (at w j) plus_zero

-- how many are not 0
abbrev pub nonzeros : List Float → ℕ
nonzeros w = count (is_on w) (length w)

-- the float sum of the magnitudes
unfoldable pub l1_of : Float → List Float → Float
l1_of z w = sum_to z (λ j. abs_of (at w j)) (length w)

-- a sum that can be divided by: above 0 and finite
abbrev pub sound : Float → Bool
sound l1 = lt plus_zero l1 && finite l1

-- each weight over d
abbrev pub over_at : Float → List Float → ℕ → Float
over_at d w j = div binary64 (at w j) d

-- each weight over the sum of magnitudes
unfoldable pub normalized : Float → List Float → List Float
normalized z w = tabulate (over_at (l1_of z w) w) (length w)
