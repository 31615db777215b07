-- The sign of a row, and the zero that a sum starts from, reach no answer: every stage is the same, how far it has moved, the stage at which a job stops,
-- its passes and the number 9.
use Prim.Native.Nat.{ℕ, zero, suc}
use mathlib.Core.Path.{◌≡◌, refl, ap, ◌∙◌}
use mathlib.Core.Bool.{Bool, false, not, ◌&&◌, ◌||◌}
use mathlib.Core.List.{List}
use lib.Dec.{leb, ltb}
use lib.ListN.{length}
use lib.Ieee.{Float, binary64, sub, le, ne}
use Rattle.seq.specs.Choice.{pick}
use Rattle.seq.specs.Sums.{plus_zero, minus_zero, at}
use Rattle.ieee.proofs.Alikes.{alike_refl}
use Rattle.ieee.proofs.Ops.{unlike_false}
use Rattle.change.specs.Margins.{change_to, max_change}
use Rattle.weights.specs.Weights.{nonzeros, l1_of, sound, normalized}
use Rattle.halved.specs.Halve.{Halved}
use Rattle.passed.specs.Halving.{pass_of}
use Rattle.draw.specs.declared.SplitMix64.{SplitMix64}
use Rattle.turning.proofs.Signed.{Facing, facing, add_facing, mul_facing, pick_facing, zero_facing, max_abs_same}
use Rattle.turning.proofs.Passes.{sound_same, Start, plus-start, minus-start, pass_same}
use Rattle.stages.specs.Stages.{stage_of, moved_by}
use Rattle.stages.proofs.SameStages as sameStages
use Rattle.rules.specs.Rules.{meets}
use Rattle.stages.specs.Stopping.{rests, exceeds, stops, first_stop, stop_of, passes_to}
use Rattle.rules.specs.declared.Rule.{Rule}
use Rattle.rules.specs.declared.Rule.TheVariants.{Target, Within}

-- ---- how far margins move: magnitudes, to the bit

module _ (turns : ℕ → Bool) (matrix matrix' : ℕ → ℕ → Float) (same : (j i : ℕ) → Facing (turns i) (matrix j i) (matrix' j i)) where
  change_facing : (before after : List Float) (i k : ℕ) → Facing (turns i) (change_to matrix before after i k) (change_to matrix' before after i k)
  unfolding change_to
  change_facing before after i zero = zero_facing (turns i) (alike_refl plus_zero)
  change_facing before after i (suc k) =
      let d : Float = sub binary64 (at before k) (at after k) in
      pick_facing {t = ne d plus_zero} refl
      (add_facing binary64 (change_facing before after i k) (mul_facing binary64 (unlike_false (turns i)) (same k i) (facing (alike_refl d))))
      (change_facing before after i k)

  pub change_same : (m n : ℕ) (before after : List Float) → max_change matrix m n before after ≡ max_change matrix' m n before after
  unfolding max_change
  change_same m n before after = max_abs_same turns _ _ n (λ i. change_facing before after i m)

-- ---- the stages, with sums from a zero z and from +0.0, on two matrices that are alike once their turned rows are negated

module _ {z : Float} (zero-start : Start z) (turns : ℕ → Bool) (matrix matrix' : ℕ → ℕ → Float)
    (same : (j i : ℕ) → Facing (turns i) (matrix j i) (matrix' j i)) (n : ℕ)
    (start : List Float) (source : SplitMix64) where
  pub stage_same : (i : ℕ) → stage_of z matrix n start source i ≡ stage_of plus_zero matrix' n start source i
  unfolding stage_of
  stage_same zero = refl
  stage_same (suc i) = ap (pass_of z matrix n) (stage_same i) ∙ pass_same zero-start turns matrix matrix' same n (stage_of plus_zero matrix' n start source i)

  pub moved_same : (i : ℕ) → moved_by matrix n start (stage_of z matrix n start source i) ≡ moved_by matrix' n start (stage_of plus_zero matrix' n start source i)
  moved_same i =
      ap (moved_by matrix n start) (stage_same i) ∙ change_same turns matrix matrix' same (length start) n start (stage_of plus_zero matrix' n start source i).w

  pub stop_same : (rule : Rule) → stop_of z matrix n start source rule ≡ stop_of plus_zero matrix' n start source rule
  stop_same = sameStages.stop_same z plus_zero matrix matrix' n start source stage_same moved_same

  pub passes_same : (rule : Rule) (i : ℕ) → passes_to z matrix n start source rule i ≡ passes_to plus_zero matrix' n start source rule i
  passes_same = sameStages.passes_same z plus_zero matrix matrix' n start source stage_same moved_same

-- ---- from the weights as they are given: sums from -0.0 and from +0.0, on one matrix

module _ (matrix : ℕ → ℕ → Float) (n : ℕ) (w : List Float) (source : SplitMix64) where
  itself : (j i : ℕ) → Facing false (matrix j i) (matrix j i)
  itself j i = facing (alike_refl (matrix j i))

  pub stages_alike : (i : ℕ) → stage_of minus_zero matrix n (normalized minus_zero w) source i ≡ stage_of plus_zero matrix n (normalized plus_zero w) source i
  stages_alike i =
      stage_same minus-start (λ _. false) matrix matrix itself n (normalized minus_zero w) source i
      ∙ ap (λ (start : List Float). stage_of plus_zero matrix n start source i) (minus-start.divides w)

  pub stops_alike : (rule : Rule) → stop_of minus_zero matrix n (normalized minus_zero w) source rule
      ≡ stop_of plus_zero matrix n (normalized plus_zero w) source rule
  stops_alike rule =
      stop_same minus-start (λ _. false) matrix matrix itself n (normalized minus_zero w) source rule
      ∙ ap (λ (start : List Float). stop_of plus_zero matrix n start source rule) (minus-start.divides w)

  pub passes_alike : (rule : Rule) (i : ℕ)
      → passes_to minus_zero matrix n (normalized minus_zero w) source rule i ≡ passes_to plus_zero matrix n (normalized plus_zero w) source rule i
  passes_alike rule i =
      passes_same minus-start (λ _. false) matrix matrix itself n (normalized minus_zero w) source rule i
      ∙ ap (λ (start : List Float). passes_to plus_zero matrix n start source rule i) (minus-start.divides w)

-- and the number 9 is the same
pub nine_alike : (w : List Float) → ◌≡◌ {A = ℕ} (pick (sound (l1_of minus_zero w)) 0 9) (pick (sound (l1_of plus_zero w)) 0 9)
nine_alike w = ap (λ (t : Bool). pick t 0 9) (sound_same w)
