-- Told between functions: the largest magnitude of a block of rows, from what was found before.
use Rattle.std.specs.Prelude.{ℕ, zero, suc, Float}
use Rattle.ieee.specs.Magnitude.{abs_of, larger_of}

-- the largest magnitude of v 0, .., v (k - 1) from one that was found before, a NaN skipped
unfoldable pub max_abs_from : Float → (ℕ → Float) → ℕ → Float
max_abs_from s v zero = s
max_abs_from s v (suc k) = larger_of (max_abs_from s v k) (abs_of (v k))
