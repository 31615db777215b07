-- Where the stage at which an accepted job stops is known, so are its answer and its output. And C8 on stages: one of 2, 3 or 4 nonzeros leaves its
-- largest alone to the next.
use Prim.Native.Nat.{ℕ, suc, ◌≤◌}
use mathlib.Core.Path.{◌≡◌, ap, ◌∙◌}
use mathlib.Core.List.{List}
use lib.ListN.{length}
use lib.Ieee.{Float, binary64}
use Rattle.seq.specs.Sums.{plus_zero, at}
use Rattle.limits.specs.Matrix.{columns_of}
use Rattle.ieee.proofs.Normalised.{Normal}
use Rattle.weights.specs.Weights.{normalized}
use Rattle.passed.specs.Alone.{Largest, Alone}
use Rattle.passed.proofs.Few.{largest_alone}
use Rattle.stages.specs.Stages.{stage_of}
use Rattle.stages.specs.Stopping.{entries_at}
use Rattle.faults.specs.Faults.{job_fault}
use Rattle.answers.specs.Answers.{answer_at, Thinned}
use Rattle.answers.specs.declared.Answer.{Answer}
use Rattle.rules.specs.declared.Rule.{Rule}
use Rattle.stages.proofs.Halting.{Leads, FirstStop, only, stop_is_first}
use Rattle.stages.proofs.Lengths.{length-stage}
use Rattle.stages.proofs.Passing.{falling, normal_stage}
use Rattle.answers.proofs.Accepting.{accepted, number_there, answer_stage, output-stage}
use Rattle.demand.proofs.DemandThree.{Doubles, start_normal, start_few}
use Rattle.draw.specs.declared.SplitMix64.{SplitMix64}

module _ (matrix : ℕ → ℕ → Float) (n : ℕ) (start : List Float) (source : SplitMix64) (normal : Normal binary64 (length start) (at start))
    (short : length start ≤ 256) where
  pub stage_alone : (i : ℕ) → Leads plus_zero matrix n start source i → 2 ≤ entries_at plus_zero matrix n start source i
      → entries_at plus_zero matrix n start source i ≤ 4
      → (k : ℕ) → Largest (stage_of plus_zero matrix n start source i).w k
      → Alone (stage_of plus_zero matrix n start source i).w (stage_of plus_zero matrix n start source (suc i)).w k
  unfolding stage_of
  stage_alone i g some few =
      largest_alone matrix n (stage_of plus_zero matrix n start source i) some few (normal_stage matrix n start source normal short i g)
      (rw (length-stage plus_zero matrix n start source i) short)

module _ {rule : Rule} {source : SplitMix64} {matrix : List Float} {m n : ℕ} {w output numbers : List Float} {indices : List ℕ}
    {r : Answer} {output' numbers' : List Float} {indices' : List ℕ}
    (job : Thinned rule source matrix m n w output numbers indices r output' numbers' indices') (doubles : Doubles w)
    (sound : job_fault rule source.edition matrix m n w (length output) (length numbers) (length indices) ≡ 0)
    (k : ℕ) (stop : FirstStop plus_zero (columns_of matrix n) n (normalized plus_zero w) source rule k) where
  pub settled : (r ≡ answer_at (columns_of matrix n) n (normalized plus_zero w) source rule k)
      × (output' ≡ (stage_of plus_zero (columns_of matrix n) n (normalized plus_zero w) source k).w)
  settled =
      let start : List Float = normalized plus_zero w in
      let a = accepted rule source.edition matrix m n w (length output) (length numbers) (length indices) sound in
      let falls = falling (columns_of matrix n) n start source (start_normal doubles a) (start_few doubles a) in
      let e = only plus_zero (columns_of matrix n) n start source (stop_is_first plus_zero (columns_of matrix n) n start source falls rule a.ruled) stop in (
        answer_stage job sound ∙ ap (answer_at (columns_of matrix n) n start source rule) e,
        output-stage job (number_there job sound) ∙ ap (λ (i : ℕ). (stage_of plus_zero (columns_of matrix n) n start source i).w) e,
      )
