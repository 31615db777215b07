-- Told between functions: the answer for the end of a path, and what a job leaves that starts from normalized weights.
use Rattle.std.specs.Prelude.{ℕ, ◌≡◌, List, length, get_or, Float}
use Rattle.std.specs.Float.{nan}
use Rattle.seq.specs.Lists.{repeated}
use Rattle.seq.specs.Sums.{plus_zero}
use Rattle.stages.specs.Stages.{stage_of}
use Rattle.stages.specs.Stopping.{stop_of}
use Rattle.stages.specs.declared.Path.{Path}
use Rattle.answers.specs.Answers.{answer_at}
use Rattle.answers.specs.declared.Answer.{Answer}
use Rattle.rules.specs.declared.Rule.{Rule}
use Rattle.draw.specs.declared.SplitMix64.{SplitMix64}

-- the stage at the end of the path, what the path has there, its counts, and the path
abbrev pub answer_for : Path → Answer
answer_for p =
    record {
      number = 0;
      stage = p.stage;
      nonzeros = get_or p.nonzeros p.stage 0;
      change = get_or p.change p.stage nan;
      directions = p.directions;
      sweeps = p.sweeps;
      path_nonzeros = p.nonzeros;
      path_change = p.change;
    }

-- the answer for the stage at which the rule stops, which is written, and a scratch of zeros
pub record ThinnedFrom (matrix : ℕ → ℕ → Float) (n : ℕ) (start : List Float) (source : SplitMix64) (rule : Rule) (numbers : List Float)
    (indices : List ℕ)
    (r : Answer) (output' numbers' : List Float) (indices' : List ℕ) : Type 0 where
  pub answers : r ≡ answer_at matrix n start source rule (stop_of plus_zero matrix n start source rule)
  pub writes : output' ≡ (stage_of plus_zero matrix n start source (stop_of plus_zero matrix n start source rule)).w
  pub floats : numbers' ≡ repeated plus_zero (length numbers)
  pub words : indices' ≡ repeated 0 (length indices)
