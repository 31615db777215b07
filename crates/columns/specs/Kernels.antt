-- Told between functions: what a column does to a vector over the rows, row by row.
use Rattle.std.specs.Prelude.{ℕ, ◌+◌, ◌≤◌, ◌≡◌, List, length, Float}
use Rattle.std.specs.Float.{binary64}
use Rattle.std.specs.Float.Ieee.{add, sub, mul}
use Rattle.seq.specs.Sums.{at}

-- acc + column g
abbrev pub plus_column : (ℕ → Float) → Float → List Float → ℕ → Float
plus_column column g acc i = add binary64 (at acc i) (mul binary64 (column i) g)

-- acc + column g + other h
abbrev pub plus_columns : (ℕ → Float) → Float → (ℕ → Float) → Float → List Float → ℕ → Float
plus_columns column g other h acc i =
    add binary64 (add binary64 (at acc i) (mul binary64 (column i) g)) (mul binary64 (other i) h)

-- two columns of one length, and a vector over as many rows or one more
pub record TwoUnder (first second acc : List Float) : Type 0 where
  pub alike : length second ≡ length first
  pub low : length first ≤ length acc
  pub high : length acc ≤ length first + 1

-- acc + column²
abbrev pub plus_squares : (ℕ → Float) → List Float → ℕ → Float
plus_squares column acc i = add binary64 (at acc i) (mul binary64 (column i) (column i))

-- ax - t column
abbrev pub less_column : (ℕ → Float) → Float → List Float → ℕ → Float
less_column column t ax i = sub binary64 (at ax i) (mul binary64 t (column i))
