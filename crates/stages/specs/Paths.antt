-- Told between functions: the path to the stage that was reached, and its weights.
use Rattle.std.specs.Prelude.{ℕ, ◌≤◌, ◌≡◌, List, Float}
use Rattle.seq.specs.Sums.{plus_zero}
use Rattle.stages.specs.Stages.{stage_of, path_nonzeros_of, path_change_of}
use Rattle.stages.specs.Stopping.{stop_of, passes_to}
use Rattle.stages.specs.declared.Path.{Path}
use Rattle.rules.specs.declared.Rule.{Rule}
use Rattle.draw.specs.declared.SplitMix64.{SplitMix64}

-- the path to the stage k, and the counts of so many passes
pub record Noted (matrix : ℕ → ℕ → Float) (n : ℕ) (start : List Float) (source : SplitMix64) (k passes : ℕ) (r : Path) : Type 0 where
  pub near : k ≤ 8
  pub stage : r.stage ≡ k
  pub nonzeros : r.nonzeros ≡ path_nonzeros_of plus_zero matrix n start source k
  pub change : r.change ≡ path_change_of plus_zero matrix n start source k
  pub directions : r.directions ≡ (stage_of plus_zero matrix n start source passes).directions
  pub sweeps : r.sweeps ≡ (stage_of plus_zero matrix n start source passes).sweeps

-- the stage that was reached is the one at which the rule stops, after its passes, and w holds it
pub record Followed (matrix : ℕ → ℕ → Float) (n : ℕ) (start : List Float) (source : SplitMix64) (rule : Rule)
    (r : Path) (w : List Float) : Type 0 where
  pub path : let k = stop_of plus_zero matrix n start source rule in Noted matrix n start source k
      (passes_to plus_zero matrix n start source rule k) r
  pub weights : w ≡ (stage_of plus_zero matrix n start source (stop_of plus_zero matrix n start source rule)).w
