-- Each item of a call that is not refused as a whole has what the single call gives on its own: its answer, and its part of the output.
use Prim.Native.Nat.{ℕ, ◌*◌, ◌-◌, ◌<◌}
use mathlib.Core.Path.{◌≡◌, refl, sym, ap, ◌∙◌}
use mathlib.Core.List.{List}
use lib.Dec.{eqb}
use lib.ListN.{length, get_or, get_or-append}
use lib.Ieee.{Float}
use Rattle.seq.specs.Choice.{pick}
use Rattle.seq.specs.Lists.{tabulate, repeated, part}
use Rattle.seq.specs.Sums.{plus_zero}
use Rattle.seq.proofs.Filling.{length-tab, get_or-tab}
use Rattle.answers.specs.Answers.{refusal, Thinned}
use Rattle.answers.specs.declared.Answer.{Answer}
use Rattle.answers.proofs.Sole.{sole}
use Rattle.items.specs.Items.{Items, weights_at, source_at, rule_at, item_answer, item_output}
use Rattle.items.specs.All.{joined, answers_of, ThinnedAll}
use Rattle.items.specs.declared.Answers.{Answers}
use Rattle.items.proofs.Joining.{part-joined}
use Rattle.items.proofs.Turns.{Called, called_of, output_long, item_long}

module _ {matrix : List Float} {m n items : ℕ} {list : Items} {output numbers : List Float} {indices : List ℕ}
    {r : Answers} {output' numbers' : List Float} {indices' : List ℕ}
    (job : ThinnedAll matrix m n items list output numbers indices r output' numbers' indices') (taken : r.number ≡ 0) where
  -- such a call has its sizes and its lists
  pub called : Called matrix m n items list output numbers indices
  called = called_of matrix m n items list output numbers indices (sym job.number ∙ taken)

  -- item k's answer
  abbrev pub answer_for : ℕ → Answer
  answer_for k = get_or r.items k (refusal 0)

  module _ (k : ℕ) (inside : k < items) where
    answer_at : answer_for k ≡ item_answer matrix m n list (length numbers) (length indices) k
    answer_at =
        let all : r.items ≡ answers_of (item_answer matrix m n list (length numbers) (length indices)) items = job.answers ∙ rw taken in
        ap (λ (xs : List Answer). get_or xs k (refusal 0)) all
        ∙ get_or-append (tabulate (item_answer matrix m n list (length numbers) (length indices)) items) (repeated (refusal 0) (64 - items)) (refusal 0) k
        (rw (length-tab (item_answer matrix m n list (length numbers) (length indices)) items) inside)
        ∙ get_or-tab (item_answer matrix m n list (length numbers) (length indices)) items k (refusal 0) inside

    output-at : part (k * m) m output' ≡ item_output matrix m n list (length numbers) (length indices) output k
    output-at =
        let all : output' ≡ joined (item_output matrix m n list (length numbers) (length indices) output) items = job.writes ∙ rw taken in
        ap (part (k * m) m) all
        ∙ part-joined (item_output matrix m n list (length numbers) (length indices) output) m items (item_long called) k inside

    -- what the single call is promised to leave
    pub item_single : Thinned (rule_at list k) (source_at list k) matrix m n (weights_at m list k) (part (k * m) m output) numbers indices
        (answer_for k) (part (k * m) m output')
        (pick (eqb (answer_for k).number 0) (repeated plus_zero (length numbers)) numbers)
        (pick (eqb (answer_for k).number 0) (repeated 0 (length indices)) indices)
    unfolding item_answer item_output
    item_single =
        record {
          answers = rw (output_long called k inside) answer_at;
          writes = output-at ∙ rw answer_at;
          floats = refl;
          words = refl;
        }

    -- so it has the answer and the output of the single call
    pub as_single : {s : Answer} {other floats : List Float} {words : List ℕ}
        → Thinned (rule_at list k) (source_at list k) matrix m n (weights_at m list k) (part (k * m) m output) numbers indices s other floats words
        → (answer_for k ≡ s) × (part (k * m) m output' ≡ other)
    as_single single = let e = sole item_single single in (e.answer, e.written)
