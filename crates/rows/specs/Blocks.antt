-- Told between functions: what the functions on blocks of rows say to each other.
use Rattle.std.specs.Prelude.{ℕ, ◌+◌, List, Float}
use Rattle.std.specs.Float.{binary64}
use Rattle.std.specs.Float.Ieee.{add, mul}
use Rattle.seq.specs.Sums.{at}

-- acc + column s
abbrev pub plus_at : List Float → Float → List Float → ℕ → Float
plus_at column s acc i = add binary64 (at acc i) (mul binary64 (at column i) s)

-- acc + the rows of column j from `from` on, times s
abbrev pub plus_rows : (ℕ → ℕ → Float) → ℕ → ℕ → Float → List Float → ℕ → Float
plus_rows matrix j from s acc i = add binary64 (at acc i) (mul binary64 (matrix j (from + i)) s)

-- acc + first s + second t
abbrev pub plus_two_at : List Float → Float → List Float → Float → List Float → ℕ → Float
plus_two_at first s second t acc i = add binary64 (plus_at first s acc i) (mul binary64 (at second i) t)

-- acc + the rows of column j times s + those of column p times t, from `from` on
abbrev pub plus_two_rows : (ℕ → ℕ → Float) → ℕ → Float → ℕ → Float → ℕ → List Float → ℕ → Float
plus_two_rows matrix j s p t from acc i = add binary64 (plus_rows matrix j from s acc i) (mul binary64 (matrix p (from + i)) t)
