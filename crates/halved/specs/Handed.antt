-- Told between functions: what a halving is handed, and what it leaves.
use Rattle.std.specs.Prelude.{ℕ, suc, ◌+◌, ◌*◌, ◌≤◌, ◌≡◌, true, List, length, Float}
use Rattle.limits.specs.Limits.{bounded}
use Rattle.limits.specs.Reading.{Whole}
use Rattle.ieee.specs.Constants.{one}
use Rattle.seq.specs.Sums.{plus_zero}
use Rattle.seq.specs.Indices.{Below}
use Rattle.colored.specs.Coloring.{coloring_of}
use Rattle.halved.specs.Halve.{scaled_columns, Halved, halved_by}
use Rattle.colored.specs.declared.Counted.{Counted}

-- a colouring of some indices has its columns and its scratch
pub record Equipped (matrix : List Float) (bits : List ℕ) (n : ℕ) (w : List Float) (some : List ℕ) (scale x numbers : List Float)
    (blocked : List ℕ) : Type 0 where
  pub whole : Whole matrix bits (length w) n
  pub inside : Below some (length w)
  pub few : length some ≤ 256
  pub short : n ≤ 4096
  pub scales : length scale ≡ length some
  pub colours : length x ≡ length some
  pub floats : 3 * (n + 1) + length some * length some ≤ length numbers
  pub rows : length blocked ≡ n + 1
  pub small : bounded one matrix ≡ true

-- the matrix, of doubles or of bits, has a column for each weight and no double above 1, and there is scratch for a colouring of any of
-- them with one more row
pub record Ready (matrix : List Float) (bits : List ℕ) (n : ℕ) (w numbers : List Float) (indices : List ℕ) : Type 0 where
  pub whole : Whole matrix bits (length w) n
  pub few : length w ≤ 256
  pub short : n ≤ 4096
  pub floats : 3 * (n + 1) + length w * length w ≤ length numbers
  pub words : n + 1 ≤ length indices
  pub small : bounded one matrix ≡ true

-- so many more colourings can be counted: each has at most 512 directions and 100 sweeps
pub record Countable (c : Counted) (more : ℕ) : Type 0 where
  pub directions : c.directions + 512 * more ≤ 1048576
  pub sweeps : c.sweeps + 100 * more ≤ 1048576

-- weights, a generator and what was counted
abbrev pub halves_of : List Float → Counted → Halved
halves_of w c = record { w = w; rng = c.rng; directions = c.directions; sweeps = c.sweeps }

-- some indices were coloured and their weights halved by the colours: w' are the weights after that, and r is the tally c with it added
pub record HalvesSome (a : ℕ → ℕ → Float) (n : ℕ) (w : List Float) (omega : Float) (some : List ℕ) (c : Counted) (w' : List Float)
    (r : Counted) : Type 0 where
  pub leaves : halves_of w' r ≡ halved_by (halves_of w c) some
      (coloring_of plus_zero (scaled_columns a n w omega some) (length some) (suc n) c.rng)
