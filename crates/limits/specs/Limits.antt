-- How large a matrix may be, how much scratch it asks for, and how large its entries may be.
use Rattle.std.specs.Prelude.{ℕ, ◌+◌, ◌*◌, Bool, ◌||◌, List, ltb, length, Float}
use Rattle.std.specs.Float.Ieee.{le}
use Rattle.std.specs.Float.Ieee.Scale.{finite}
use Rattle.seq.specs.Sums.{at}
use Rattle.seq.specs.Keep.{all_to}
use Rattle.ieee.specs.Magnitude.{abs_of}

-- more than 256 columns or 4096 rows
abbrev pub too_large : ℕ → ℕ → Bool
too_large m n = ltb 256 m || ltb 4096 n

-- how long the number scratch has to be, for m columns and n rows
abbrev pub numbers_needed : ℕ → ℕ → ℕ
numbers_needed m n = m * (n + 1) + m * m + 16 * m + 8 * (n + 1)

-- how long the index scratch has to be
abbrev pub indices_needed : ℕ → ℕ → ℕ
indices_needed m n = 8 * (m + n + 1)

-- a scratch of these lengths is too short
abbrev pub scratch_short : ℕ → ℕ → ℕ → ℕ → Bool
scratch_short m n numbers indices = ltb numbers (numbers_needed m n) || ltb indices (indices_needed m n)

-- every entry is at most so large in magnitude; a NaN is not
abbrev pub bounded : Float → List Float → Bool
bounded most matrix = all_to (λ i. le (abs_of (at matrix i)) most) (length matrix)

-- every number of a list is finite
abbrev pub all_finite : List Float → Bool
all_finite v = all_to (λ i. finite (at v i)) (length v)
