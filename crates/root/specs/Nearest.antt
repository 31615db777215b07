-- What the root of each double has to be, said without a word of how it is found. The definition `sqrt_of` meets it, for every double.
use Rattle.std.specs.Prelude.{ℕ, zero, suc, ◌+◌, ◌-◌, ◌*◌, ◌^◌, ◌<◌, ◌≡◌, true, false, T, Float}
use Rattle.std.specs.Float.{nan, inf, fin, binary64}
use Rattle.std.specs.Float.Ieee.{fits}
use Rattle.std.specs.Float.Ieee.Scale.{finite}
use Rattle.ieee.specs.Units.{sign, mag, is_num}

-- four times the square of the root of x, x above zero: in units of 2 ^ -1074 the root is √(mag x * 2 ^ 1074)
abbrev pub doubled_squared : Float → ℕ
doubled_squared x = 4 * (mag binary64 x * 2 ^ 1074)

-- r is a finite double, not negative, and every other double y is farther from the root of x than r is.
-- The mean of y and r tells it: y below r is farther where the mean is below the root, and y above r where it is above. Both sides are
-- doubled and squared.
pub record NearestRoot (x r : Float) : Type 0 where
  pub held : T (fits binary64 r)
  pub ends : T (finite r)
  pub plus : sign r ≡ false
  pub below : (y : Float) → T (fits binary64 y) → T (is_num y) → sign y ≡ false → mag binary64 y < mag binary64 r
      → (mag binary64 y + mag binary64 r) * (mag binary64 y + mag binary64 r) < doubled_squared x
  pub above : (y : Float) → T (fits binary64 y) → T (is_num y) → sign y ≡ false → mag binary64 r < mag binary64 y
      → doubled_squared x < (mag binary64 y + mag binary64 r) * (mag binary64 y + mag binary64 r)
  -- a negative y: where it is r's size or more, the mean is not above 0, and the root is
  pub negative : (y : Float) → T (fits binary64 y) → T (is_num y) → sign y ≡ true
      → (mag binary64 r - mag binary64 y) * (mag binary64 r - mag binary64 y) < doubled_squared x

-- r is the root of x: what is below zero has none, and a zero, minus zero too, is its own
unfoldable pub IsRoot : Float → Float → Type 0
IsRoot nan r = r ≡ nan
IsRoot (inf false) r = r ≡ inf false
IsRoot (inf true) r = r ≡ nan
IsRoot (fin s zero e) r = r ≡ fin s zero e
IsRoot (fin false (suc m) e) r = NearestRoot (fin false (suc m) e) r
IsRoot (fin true (suc m) e) r = r ≡ nan
