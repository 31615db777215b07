-- No second answer fits: what a job from bits is promised to leave determines the answer, the output and the scratch.
use Prim.Native.Nat.{ℕ}
use mathlib.Core.Path.{◌≡◌, sym, ap, ◌∙◌}
use mathlib.Core.List.{List}
use lib.Dec.{eqb}
use lib.ListN.{length}
use lib.Ieee.{Float}
use Rattle.seq.specs.Choice.{pick}
use Rattle.seq.specs.Lists.{repeated}
use Rattle.seq.specs.Sums.{plus_zero}
use Rattle.limits.specs.Votes.{expanded}
use Rattle.draw.specs.declared.SplitMix64.{SplitMix64}
use Rattle.rules.specs.declared.Rule.{Rule}
use Rattle.answers.specs.Answers.{returned}
use Rattle.answers.specs.declared.Answer.{Answer}
use Rattle.answers.proofs.Sole.{Same}
use Rattle.bitfaults.specs.Ballots.{BitsThinned}

pub sole_bits : {rule : Rule} {source : SplitMix64} {bits : List ℕ} {m n : ℕ} {w output numbers : List Float} {indices : List ℕ}
    {r s : Answer} {output' output'' numbers' numbers'' : List Float} {indices' indices'' : List ℕ}
    → BitsThinned rule source bits m n w output numbers indices r output' numbers' indices'
    → BitsThinned rule source bits m n w output numbers indices s output'' numbers'' indices''
    → Same r s output' output'' numbers' numbers'' indices' indices''
sole_bits {rule} {source} {bits} {m} {n} {w} {output} {numbers} {indices} p q =
    let e = p.answers ∙ sym q.answers in
    record {
      answer = e;
      written = p.writes ∙ ap (λ (x : Answer). pick (eqb x.number 0) (returned (expanded bits m n) n w source rule).w output) e ∙ sym q.writes;
      floats = p.floats ∙ ap (λ (x : Answer). pick (eqb x.number 0) (repeated plus_zero (length numbers)) numbers) e ∙ sym q.floats;
      words = p.words ∙ ap (λ (x : Answer). pick (eqb x.number 0) (repeated 0 (length indices)) indices) e ∙ sym q.words;
    }
