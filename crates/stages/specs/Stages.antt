-- The one sequence of stages: stage 0 is the normalized input, and each pass makes the next from the one before, with a generator that
-- runs on.
-- And the path along it, to the stage that a job returns.
-- A matrix is a function of the column and the row; it has n rows. z is what a sum starts from.
use Rattle.std.specs.Prelude.{ℕ, zero, suc, ◌-◌, List, ◌++◌, length, Float}
use Rattle.seq.specs.Lists.{tabulate, repeated}
use Rattle.seq.specs.Sums.{plus_zero}
use Rattle.weights.specs.Weights.{nonzeros}
use Rattle.halved.specs.Halve.{Halved}
use Rattle.passed.specs.Halving.{pass_of}
use Rattle.change.specs.Margins.{max_change}
use Rattle.draw.specs.declared.SplitMix64.{SplitMix64}

-- stage i from the normalized weights and the generator that a job starts with: weights, the generator after them, and what the passes
-- to it drew and swept
unfoldable pub stage_of : Float → (ℕ → ℕ → Float) → ℕ → List Float → SplitMix64 → ℕ → Halved
stage_of z matrix n start source zero = record { w = start; rng = source; directions = 0; sweeps = 0 }
stage_of z matrix n start source (suc i) = pass_of z matrix n (stage_of z matrix n start source i)

-- how far the margins have moved from the normalized weights, at the worst row
abbrev pub moved_by : (ℕ → ℕ → Float) → ℕ → List Float → Halved → Float
moved_by matrix n start s = max_change matrix (length start) n start s.w

-- What each stage from 0 to k has, in order, and zeros after it. Nine places: from 256 weights there are at most nine stages.
abbrev pub path_of : {A : Type 0} → A → (ℕ → A) → ℕ → List A
path_of none has k = tabulate has (suc k) ++ repeated none (8 - k)

-- the nonzeros of the stages from 0 to k
abbrev pub path_nonzeros_of : Float → (ℕ → ℕ → Float) → ℕ → List Float → SplitMix64 → ℕ → List ℕ
path_nonzeros_of z matrix n start source k = path_of 0 (λ i. nonzeros (stage_of z matrix n start source i).w) k

-- and how far each has moved
abbrev pub path_change_of : Float → (ℕ → ℕ → Float) → ℕ → List Float → SplitMix64 → ℕ → List Float
path_change_of z matrix n start source k = path_of plus_zero (λ i. moved_by matrix n start (stage_of z matrix n start source i)) k
