-- Which rows are turned in a pass: of n rows those that are told, and never the row of the scales' magnitudes under them.
use Prim.Native.Nat.{ℕ}
use mathlib.Core.Bool.{Bool, false}
use lib.Dec.{ltb}
use Rattle.seq.specs.Choice.{pick}

-- the rows that are turned in a pass
abbrev pub in_pass : ℕ → (ℕ → Bool) → ℕ → Bool
in_pass n turns i = pick (ltb i n) (turns i) false
