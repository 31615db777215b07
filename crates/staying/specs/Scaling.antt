-- A column however its entries are read: of n rows, scaled by s, with the magnitude of the scale under it.
use Rattle.std.specs.Prelude.{ℕ, List, ltb, Float}
use Rattle.std.specs.Float.{binary64}
use Rattle.std.specs.Float.Ieee.{mul}
use Rattle.seq.specs.Choice.{pick}
use Rattle.ieee.specs.Magnitude.{abs_of}
use Rattle.limits.specs.Votes.{vote_at}

-- entry i of a column of n rows that is read by `read` and scaled by s: under its own entries stands |s|
abbrev pub scaled_by : (ℕ → Float) → ℕ → Float → ℕ → Float
scaled_by read n s i = pick (ltb i n) (mul binary64 (read i) s) (abs_of s)

-- a column of bits
abbrev pub scaled_votes : List ℕ → ℕ → Float → ℕ → Float
scaled_votes column n s = scaled_by (vote_at column) n s
