-- A job reads a matrix only at its columns and rows: what it leaves of one is what it leaves of another with the same entries there.
use Prim.Native.Nat.{ℕ, ◌<◌}
use mathlib.Core.Path.{◌≡◌, ap, ◌∙◌, fun_ext}
use mathlib.Core.List.{List}
use lib.ListN.{length}
use lib.Ieee.{Float}
use Rattle.seq.specs.Sums.{plus_zero}
use Rattle.weights.specs.Weights.{nonzeros}
use Rattle.rules.specs.declared.Rule.{Rule}
use Rattle.draw.specs.declared.SplitMix64.{SplitMix64}
use Rattle.halved.specs.Halve.{Halved}
use Rattle.stages.specs.Stages.{stage_of, moved_by, path_of, path_nonzeros_of, path_change_of}
use Rattle.stages.specs.Stopping.{stop_of, passes_to}
use Rattle.stages.proofs.SameMatrix.{stage_same, moved_same, stop_same, passes_same}
use Rattle.answers.specs.Answers.{answer_at}
use Rattle.answers.specs.Thinning.{ThinnedFrom}
use Rattle.answers.specs.declared.Answer.{Answer}

module _ (a b : ℕ → ℕ → Float) (m n : ℕ) (same : (j i : ℕ) → j < m → i < n → a j i ≡ b j i)
    (start : List Float) (long : length start ≡ m) (source : SplitMix64) (rule : Rule) where
  stages_agree : (i : ℕ) → stage_of plus_zero a n start source i ≡ stage_of plus_zero b n start source i
  stages_agree = stage_same a b m n same plus_zero start source long

  moves_agree : (i : ℕ) → moved_by a n start (stage_of plus_zero a n start source i) ≡ moved_by b n start (stage_of plus_zero b n start source i)
  moves_agree = moved_same a b m n same plus_zero start source long

  -- the stage at which the job stops, and its answer for any stage
  stops_agree : stop_of plus_zero a n start source rule ≡ stop_of plus_zero b n start source rule
  stops_agree = stop_same a b m n same plus_zero start source long rule

  nonzeros_agree : (k : ℕ) → path_nonzeros_of plus_zero a n start source k ≡ path_nonzeros_of plus_zero b n start source k
  nonzeros_agree k = ap (λ (has : ℕ → ℕ). path_of 0 has k) (fun_ext (λ i. ap (λ (s : Halved). nonzeros s.w) (stages_agree i)))

  changes_agree : (k : ℕ) → path_change_of plus_zero a n start source k ≡ path_change_of plus_zero b n start source k
  changes_agree k = ap (λ (has : ℕ → Float). path_of plus_zero has k) (fun_ext moves_agree)

  last_agree : (k : ℕ) → stage_of plus_zero a n start source (passes_to plus_zero a n start source rule k)
      ≡ stage_of plus_zero b n start source (passes_to plus_zero b n start source rule k)
  last_agree k =
      stages_agree (passes_to plus_zero a n start source rule k)
      ∙ ap (stage_of plus_zero b n start source) (passes_same a b m n same plus_zero start source long rule k)

  answer_agrees : (k : ℕ) → answer_at a n start source rule k ≡ answer_at b n start source rule k
  answer_agrees k = λ j.
      record {
        number = 0;
        stage = k;
        nonzeros = nonzeros (stages_agree k j).w;
        change = moves_agree k j;
        directions = (last_agree k j).directions;
        sweeps = (last_agree k j).sweeps;
        path_nonzeros = nonzeros_agree k j;
        path_change = changes_agree k j;
      }

  pub thinned_same : {numbers : List Float} {indices : List ℕ} {r : Answer} {output' numbers' : List Float} {indices' : List ℕ}
      → ThinnedFrom a n start source rule numbers indices r output' numbers' indices'
      → ThinnedFrom b n start source rule numbers indices r output' numbers' indices'
  thinned_same p =
      record {
        answers = p.answers ∙ answer_agrees _ ∙ ap (answer_at b n start source rule) stops_agree;
        writes = p.writes ∙ ap (λ (s : Halved). s.w) (stages_agree _ ∙ ap (stage_of plus_zero b n start source) stops_agree);
        floats = p.floats;
        words = p.words;
      }
