-- No second answer fits: what a job is promised to leave determines the answer, the output and the scratch.
use Prim.Native.Nat.{ℕ}
use mathlib.Core.Path.{◌≡◌, sym, ap, ◌∙◌}
use mathlib.Core.List.{List}
use lib.Dec.{eqb}
use lib.ListN.{length}
use lib.Ieee.{Float}
use Rattle.seq.specs.Choice.{pick}
use Rattle.seq.specs.Lists.{repeated}
use Rattle.seq.specs.Sums.{plus_zero}
use Rattle.answers.specs.Answers.{returned, Thinned}
use Rattle.answers.specs.declared.Answer.{Answer}
use Rattle.rules.specs.declared.Rule.{Rule}
use Rattle.draw.specs.declared.SplitMix64.{SplitMix64}

pub record Same (r s : Answer) (output output' numbers numbers' : List Float) (indices indices' : List ℕ) : Type 0 where
  pub answer : r ≡ s
  pub written : output ≡ output'
  pub floats : numbers ≡ numbers'
  pub words : indices ≡ indices'

pub sole : {rule : Rule} {source : SplitMix64} {matrix : List Float} {m n : ℕ} {w output numbers : List Float} {indices : List ℕ}
    {r s : Answer} {output' output'' numbers' numbers'' : List Float} {indices' indices'' : List ℕ}
    → Thinned rule source matrix m n w output numbers indices r output' numbers' indices'
    → Thinned rule source matrix m n w output numbers indices s output'' numbers'' indices''
    → Same r s output' output'' numbers' numbers'' indices' indices''
sole {rule} {source} {matrix} {m} {n} {w} {output} {numbers} {indices} p q =
    let e = p.answers ∙ sym q.answers in
    record {
      answer = e;
      written = p.writes ∙ ap (λ (x : Answer). pick (eqb x.number 0) (returned matrix n w source rule).w output) e ∙ sym q.writes;
      floats = p.floats ∙ ap (λ (x : Answer). pick (eqb x.number 0) (repeated plus_zero (length numbers)) numbers) e ∙ sym q.floats;
      words = p.words ∙ ap (λ (x : Answer). pick (eqb x.number 0) (repeated 0 (length indices)) indices) e ∙ sym q.words;
    }
