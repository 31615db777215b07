-- Told between functions: columns that can be read.
use Rattle.std.specs.Prelude.{ℕ, ◌+◌, ◌≤◌, ◌<◌, ◌≡◌, List, T, length, get_or, Float}
use Rattle.std.specs.Float.Ieee.Scale.{finite}
use Rattle.seq.specs.Sums.{at}
use Rattle.limits.specs.Reading.{Lies}
use Rattle.chosen.specs.Entries.{entry_of}

-- every chosen column lies in the matrix, there are n rows, or n + 1, and a finite scale leaves every entry finite
pub record Chosen (matrix : List Float) (bits : List ℕ) (n : ℕ) (cols : List ℕ) (scale : List Float) (rows : ℕ) : Type 0 where
  pub low : n ≤ rows
  pub high : rows ≤ n + 1
  pub short : rows ≤ 4097
  pub few : length cols ≤ 256
  pub paired : length scale ≡ length cols
  pub inside : (p : ℕ) → p < length cols → Lies matrix bits n (get_or cols p 0)
  pub sound : (p i : ℕ) → p < length cols → T (finite (at scale p)) → T (finite (entry_of matrix bits n cols scale p i))
