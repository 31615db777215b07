-- A column that is scaled, with the magnitude of its scale under it.
use Rattle.std.specs.Prelude.{ℕ, List, ltb, length, Float}
use Rattle.std.specs.Float.{binary64}
use Rattle.std.specs.Float.Ieee.{mul}
use Rattle.seq.specs.Choice.{pick}
use Rattle.seq.specs.Sums.{at}
use Rattle.ieee.specs.Magnitude.{abs_of}

-- entry i of a column that is scaled by s: under its own entries stands |s|
abbrev pub scaled_at : List Float → Float → ℕ → Float
scaled_at column s i = pick (ltb i (length column)) (mul binary64 (at column i) s) (abs_of s)
