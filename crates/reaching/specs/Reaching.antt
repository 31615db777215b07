-- A step over doubles, at one coordinate: x, and the direction's entry g there.
use Rattle.std.specs.Prelude.{not, T, Float}
use Rattle.std.specs.Float.{binary64}
use Rattle.std.specs.Float.Ieee.{add, sub, mul, div, fits, lt, le, eq}
use Rattle.std.specs.Float.Ieee.Scale.{finite}
use Rattle.seq.specs.Sums.{plus_zero}
use Rattle.ieee.specs.Magnitude.{abs_of, signum_of}
use Rattle.blocking.specs.Freeze.{freeze_limit}

-- how far x can go along g before it is 1 or -1
abbrev pub reach_of : Float → Float → Float
reach_of x g = div binary64 (sub binary64 (signum_of g) x) g

-- where a step of that reach leads: four operations, each rounded
abbrev pub led_to : Float → Float → Float
led_to x g = add binary64 x (mul binary64 (reach_of x g) g)

-- what a coordinate has to reach to freeze
abbrev pub limit : Float
limit = freeze_limit

-- x is below the freezing limit in magnitude, g is finite and not 0, and the reach is finite
pub record Free (x g : Float) : Type 0 where
  pub held : T (fits binary64 x)
  pub inside : T (lt (abs_of x) limit)
  pub g_held : T (fits binary64 g)
  pub g_ends : T (finite g)
  pub g_some : T (not (eq g plus_zero))
  pub q_ends : T (finite (reach_of x g))

-- the step is finite and reaches the limit
pub record Reached (x g : Float) : Type 0 where
  pub ends : T (finite (led_to x g))
  pub reached : T (le limit (abs_of (led_to x g)))
