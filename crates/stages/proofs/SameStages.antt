-- Two sequences of stages that are the same, and have moved as far, stop at the same stage after the same passes, along the same path.
use Prim.Native.Nat.{ℕ, zero, suc}
use mathlib.Core.Path.{◌≡◌, refl, ap}
use mathlib.Core.Bool.{Bool, not, ◌&&◌, ◌||◌}
use mathlib.Core.List.{List}
use lib.Dec.{leb, ltb}
use lib.ListN.{length}
use lib.Ieee.{Float, le}
use Rattle.seq.specs.Choice.{pick}
use Rattle.weights.specs.Weights.{nonzeros}
use Rattle.halved.specs.Halve.{Halved}
use Rattle.rules.specs.Rules.{meets}
use Rattle.rules.specs.declared.Rule.{Rule}
use Rattle.rules.specs.declared.Rule.TheVariants.{Target, Within}
use Rattle.draw.specs.declared.SplitMix64.{SplitMix64}
use Rattle.stages.specs.Stages.{stage_of, moved_by}
use Rattle.stages.specs.Stopping.{rests, exceeds, stops, first_stop, stop_of, passes_to}

module _ (z z' : Float) (matrix matrix' : ℕ → ℕ → Float) (n : ℕ) (start : List Float) (source : SplitMix64)
    (stage_same : (i : ℕ) → stage_of z matrix n start source i ≡ stage_of z' matrix' n start source i)
    (Moved-same : (i : ℕ) → moved_by matrix n start (stage_of z matrix n start source i) ≡ moved_by matrix' n start (stage_of z' matrix' n start source i)) where
  rests_same : (rule : Rule) (i : ℕ) → rests z matrix n start source rule i ≡ rests z' matrix' n start source rule i
  rests_same (Target t) i = ap (λ (s : Halved). leb (nonzeros s.w) t) (stage_same i)
  rests_same (Within allowance cap) i =
      λ j. leb (nonzeros (stage_same i j).w) 1 || (ltb 0 i && (not (le (Moved-same i j) allowance) && meets cap (nonzeros (stage_same i j).w)))

  exceeds_same : (rule : Rule) (i : ℕ) → exceeds z matrix n start source rule i ≡ exceeds z' matrix' n start source rule i
  exceeds_same (Target t) i = refl
  exceeds_same (Within allowance cap) i = λ j. meets cap (nonzeros (stage_same i j).w) && not (le (Moved-same (suc i) j) allowance)

  stops_same : (rule : Rule) (i : ℕ) → stops z matrix n start source rule i ≡ stops z' matrix' n start source rule i
  stops_same rule i = λ j. rests_same rule i j || exceeds_same rule i j

  first_same : (rule : Rule) (k i : ℕ) → first_stop z matrix n start source rule k i ≡ first_stop z' matrix' n start source rule k i
  unfolding first_stop
  first_same rule zero i = refl
  first_same rule (suc k) i = λ j. pick (stops_same rule i j) i (first_same rule k (suc i) j)

  pub stop_same : (rule : Rule) → stop_of z matrix n start source rule ≡ stop_of z' matrix' n start source rule
  stop_same rule = first_same rule (length start) 0

  pub passes_same : (rule : Rule) (i : ℕ) → passes_to z matrix n start source rule i ≡ passes_to z' matrix' n start source rule i
  passes_same rule i = ap (λ (t : Bool). pick t i (suc i)) (rests_same rule i)
