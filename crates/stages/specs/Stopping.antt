-- Where a job stops in the sequence of stages.
use Rattle.std.specs.Prelude.{ℕ, zero, suc, Bool, false, not, ◌&&◌, ◌||◌, List, leb, ltb, length, Float}
use Rattle.std.specs.Float.Ieee.{le}
use Rattle.seq.specs.Choice.{pick}
use Rattle.weights.specs.Weights.{nonzeros}
use Rattle.rules.specs.Rules.{meets}
use Rattle.stages.specs.Stages.{stage_of, moved_by}
use Rattle.rules.specs.declared.Rule.{Rule}
use Rattle.rules.specs.declared.Rule.TheVariants.{Target, Within}
use Rattle.draw.specs.declared.SplitMix64.{SplitMix64}

module _ (z : Float) (matrix : ℕ → ℕ → Float) (n : ℕ) (start : List Float) (source : SplitMix64) where
  abbrev pub entries_at : ℕ → ℕ
  entries_at i = nonzeros (stage_of z matrix n start source i).w

  -- stage i measures above the allowance
  abbrev pub above : Float → ℕ → Bool
  above allowance i = not (le (moved_by matrix n start (stage_of z matrix n start source i)) allowance)

  -- Stage i is returned without a look at the next: it has at most so many nonzeros, or one, or it meets the cap and measures above.
  abbrev pub rests : Rule → ℕ → Bool
  rests (Target t) i = leb (entries_at i) t
  rests (Within allowance cap) i = leb (entries_at i) 1 || (ltb 0 i && (above allowance i && meets cap (entries_at i)))

  -- stage i meets the cap, and the next measures above the allowance
  abbrev pub exceeds : Rule → ℕ → Bool
  exceeds (Target t) i = false
  exceeds (Within allowance cap) i = meets cap (entries_at i) && above allowance (suc i)

  -- the job stops at stage i
  abbrev pub stops : Rule → ℕ → Bool
  stops rule i = rests rule i || exceeds rule i

  -- the first stage from i on at which it stops, within so many
  unfoldable pub first_stop : Rule → ℕ → ℕ → ℕ
  first_stop rule zero i = i
  first_stop rule (suc k) i = let r : ℕ = first_stop rule k (suc i) in pick (stops rule i) i r

  -- The stage at which the job stops. Every pass leaves fewer nonzeros, so that there are fewer stages than weights.
  abbrev pub stop_of : Rule → ℕ
  stop_of rule = first_stop rule (length start) 0

  -- The passes of a job that stops at stage i: those to it, and one more where it was returned only after a look at the next, which is
  -- discarded.
  abbrev pub passes_to : Rule → ℕ → ℕ
  passes_to rule i = pick (rests rule i) i (suc i)
