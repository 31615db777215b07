-- Running sums from +0.0, and what a pass does to an entry.
use Rattle.std.specs.Prelude.{ℕ, false, pos, Float}
use Rattle.std.specs.Float.{fin, Format}
use Rattle.std.specs.Float.Ieee.{mul}
use Rattle.seq.specs.Sums.{sum_from}

-- the running sum from +0.0, in any format
abbrev pub sum_up : Format → (ℕ → Float) → ℕ → Float
sum_up f v k = sum_from f (fin false 0 (pos 0)) v k

-- an entry is kept, doubled once or twice, or zeroed
pub data Turned (f : Format) (x : Float) : Float → Type 0 where
  kept : Turned f x x
  once : Turned f x (mul f (fin false 1 (pos 1)) x)
  again : Turned f x (mul f (fin false 1 (pos 1)) (mul f (fin false 1 (pos 1)) x))
  gone : Turned f x (fin false 0 (pos 0))
