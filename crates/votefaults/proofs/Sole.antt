-- No second answer fits: what a call on votes is promised to leave determines the answer, both lists and the scratch.
use Prim.Native.Nat.{ℕ}
use mathlib.Core.Path.{◌≡◌, sym, ap, ◌∙◌}
use mathlib.Core.List.{List}
use lib.IntN.{ℤ}
use lib.Dec.{eqb}
use lib.ListN.{length}
use lib.Ieee.{Float}
use Rattle.seq.specs.Choice.{pick}
use Rattle.seq.specs.Lists.{repeated}
use Rattle.seq.specs.Sums.{plus_zero}
use Rattle.draw.specs.declared.SplitMix64.{SplitMix64}
use Rattle.rules.specs.declared.Rule.{Rule}
use Rattle.answers.specs.Answers.{returned}
use Rattle.answers.specs.declared.Answer.{Answer}
use Rattle.packing.specs.Packed.{packed_columns, packed_weights}
use Rattle.votefaults.specs.Votes.{margins_of, VotesThinned}

pub record Same (r s : Answer) (columns columns' : List ℕ) (kept kept' numbers numbers' : List Float) (indices indices' : List ℕ) : Type 0 where
  pub answer : r ≡ s
  pub numbered : columns ≡ columns'
  pub weighed : kept ≡ kept'
  pub floats : numbers ≡ numbers'
  pub words : indices ≡ indices'

pub sole : {rule : Rule} {source : SplitMix64} {confidences : List Float} {labels : List ℤ} {m n : ℕ} {w : List Float} {columns : List ℕ}
    {kept numbers : List Float} {indices : List ℕ} {r s : Answer} {columns' columns'' : List ℕ} {kept' kept'' numbers' numbers'' : List Float}
    {indices' indices'' : List ℕ}
    → VotesThinned rule source confidences labels m n w columns kept numbers indices r columns' kept' numbers' indices'
    → VotesThinned rule source confidences labels m n w columns kept numbers indices s columns'' kept'' numbers'' indices''
    → Same r s columns' columns'' kept' kept'' numbers' numbers'' indices' indices''
sole {rule} {source} {confidences} {labels} {m} {n} {w} {columns} {kept} {numbers} {indices} p q =
    let e = p.answers ∙ sym q.answers in
    let left : List Float = (returned (margins_of labels n confidences) n w source rule).w in
    record {
      answer = e;
      numbered = p.numbered ∙ ap (λ (x : Answer). pick (eqb x.number 0) (packed_columns left) columns) e ∙ sym q.numbered;
      weighed = p.weighed ∙ ap (λ (x : Answer). pick (eqb x.number 0) (packed_weights left) kept) e ∙ sym q.weighed;
      floats = p.floats ∙ ap (λ (x : Answer). pick (eqb x.number 0) (repeated plus_zero (length numbers)) numbers) e ∙ sym q.floats;
      words = p.words ∙ ap (λ (x : Answer). pick (eqb x.number 0) (repeated 0 (length indices)) indices) e ∙ sym q.words;
    }
