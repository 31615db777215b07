-- What a job answers and leaves, for every argument.
use Rattle.std.specs.Prelude.{ℕ, ◌≡◌, List, eqb, length, Float}
use Rattle.seq.specs.Choice.{pick}
use Rattle.seq.specs.Lists.{repeated}
use Rattle.seq.specs.Sums.{plus_zero}
use Rattle.limits.specs.Matrix.{columns_of}
use Rattle.weights.specs.Weights.{nonzeros, normalized}
use Rattle.halved.specs.Halve.{Halved}
use Rattle.stages.specs.Stages.{stage_of, moved_by, path_nonzeros_of, path_change_of}
use Rattle.stages.specs.Stopping.{stop_of, passes_to}
use Rattle.faults.specs.Faults.{job_fault}
use Rattle.answers.specs.declared.Answer.{Answer}
use Rattle.rules.specs.declared.Rule.{Rule}
use Rattle.draw.specs.declared.SplitMix64.{SplitMix64}

-- a refusal: its number, and zeros
abbrev pub refusal : ℕ → Answer
refusal number =
    record {
      number = number;
      stage = 0;
      nonzeros = 0;
      change = plus_zero;
      directions = 0;
      sweeps = 0;
      path_nonzeros = repeated 0 9;
      path_change = repeated plus_zero 9;
    }

-- the answer by a rule that returns stage k: its nonzeros, its change from the normalized weights, the directions and the sweeps of all
-- passes, a discarded one too, and nonzeros and change of every stage up to it
abbrev pub answer_at : (ℕ → ℕ → Float) → ℕ → List Float → SplitMix64 → Rule → ℕ → Answer
answer_at matrix n start source rule k =
    let s : Halved = stage_of plus_zero matrix n start source k in
    let last : Halved = stage_of plus_zero matrix n start source (passes_to plus_zero matrix n start source rule k) in
    record {
      number = 0;
      stage = k;
      nonzeros = nonzeros s.w;
      change = moved_by matrix n start s;
      directions = last.directions;
      sweeps = last.sweeps;
      path_nonzeros = path_nonzeros_of plus_zero matrix n start source k;
      path_change = path_change_of plus_zero matrix n start source k;
    }

-- the stage at which a job on the weights w stops
abbrev pub stop_for : List Float → ℕ → List Float → SplitMix64 → Rule → ℕ
stop_for matrix n w source rule = stop_of plus_zero (columns_of matrix n) n (normalized plus_zero w) source rule

-- what it returns there
abbrev pub returned : List Float → ℕ → List Float → SplitMix64 → Rule → Halved
returned matrix n w source rule = stage_of plus_zero (columns_of matrix n) n (normalized plus_zero w) source (stop_for matrix n w source rule)

-- the answer of a job that is not refused
unfoldable pub answer_of : List Float → ℕ → List Float → SplitMix64 → Rule → Answer
answer_of matrix n w source rule = answer_at (columns_of matrix n) n (normalized plus_zero w) source rule (stop_for matrix n w source rule)

-- The answer, the output and the scratch: a refusal changes nothing, and an accepted job writes its stage and zeroes the scratch.
pub record Thinned (rule : Rule) (source : SplitMix64) (matrix : List Float) (m n : ℕ) (w output numbers : List Float) (indices : List ℕ)
    (r : Answer) (output' numbers' : List Float) (indices' : List ℕ) : Type 0 where
  pub answers : r ≡ pick (eqb (job_fault rule source.edition matrix m n w (length output) (length numbers) (length indices)) 0)
      (answer_of matrix n w source rule)
      (refusal (job_fault rule source.edition matrix m n w (length output) (length numbers) (length indices)))
  pub writes : output' ≡ pick (eqb r.number 0) (returned matrix n w source rule).w output
  pub floats : numbers' ≡ pick (eqb r.number 0) (repeated plus_zero (length numbers)) numbers
  pub words : indices' ≡ pick (eqb r.number 0) (repeated 0 (length indices)) indices
