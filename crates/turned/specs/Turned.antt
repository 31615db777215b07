-- The margins of two weight vectors, and the rows whose margin changes sides of its threshold.
-- A matrix is a function of the column and the row.
use Rattle.std.specs.Prelude.{ℕ, Bool, not, ◌&&◌, ◌||◌, List, Float}
use Rattle.std.specs.Float.{binary64}
use Rattle.std.specs.Float.Ieee.{mul, lt}
use Rattle.seq.specs.Sums.{plus_zero, sum_to, at}
use Rattle.seq.specs.Keep.{count}

-- the margin at row i: the running sum of matrix w over m columns, from +0.0
abbrev pub margin_at : (ℕ → ℕ → Float) → ℕ → List Float → ℕ → Float
margin_at matrix m w i = sum_to plus_zero (λ j. mul binary64 (matrix j i) (at w j)) m

-- A margin was above the threshold and is not, or is and was not. A NaN is above nothing.
abbrev pub turns : Float → Float → Float → Bool
turns threshold before after = (lt threshold before && not (lt threshold after)) || (lt threshold after && not (lt threshold before))

-- row i turns, at its own threshold
abbrev pub turns_at : (ℕ → ℕ → Float) → ℕ → List Float → List Float → List Float → ℕ → Bool
turns_at matrix m before after thresholds i = turns (at thresholds i) (margin_at matrix m before i) (margin_at matrix m after i)

-- how many of the n rows turn
unfoldable pub turned_count : (ℕ → ℕ → Float) → ℕ → ℕ → List Float → List Float → List Float → ℕ
turned_count matrix m n before after thresholds = count (turns_at matrix m before after thresholds) n
