-- No second answer fits: what a call for several items is promised to leave determines its number, each item's answer, the output and the scratch.
use Prim.Native.Nat.{ℕ}
use mathlib.Core.Path.{◌≡◌, sym, ap, ◌∙◌}
use mathlib.Core.List.{List}
use lib.Dec.{eqb}
use lib.ListN.{length}
use lib.Ieee.{Float}
use Rattle.seq.specs.Choice.{pick}
use Rattle.seq.specs.Lists.{repeated}
use Rattle.seq.specs.Sums.{plus_zero}
use Rattle.answers.specs.Answers.{refusal}
use Rattle.answers.specs.declared.Answer.{Answer}
use Rattle.items.specs.Items.{Items, item_answer, item_output}
use Rattle.items.specs.All.{joined, answers_of, AllThinned, ThinnedAll, BitsThinnedAll}
use Rattle.items.specs.declared.Answers.{Answers}

pub record SameAll (r s : Answers) (output output' numbers numbers' : List Float) (indices indices' : List ℕ) : Type 0 where
  pub answer : r ≡ s
  pub written : output ≡ output'
  pub floats : numbers ≡ numbers'
  pub words : indices ≡ indices'

-- two answers with the same number and the same items
same_answers : (r s : Answers) → r.number ≡ s.number → r.items ≡ s.items → r ≡ s
same_answers r s e f =
    ap (λ (k : ℕ). record { number = k; items = r.items }) e ∙ ap (λ (xs : List Answer). record { number = s.number; items = xs }) f

pub sole_of : {fault : ℕ} {matrix : List Float} {m n items : ℕ} {list : Items} {output numbers : List Float} {indices : List ℕ}
    {r s : Answers} {output' output'' numbers' numbers'' : List Float} {indices' indices'' : List ℕ}
    → AllThinned fault matrix m n items list output numbers indices r output' numbers' indices'
    → AllThinned fault matrix m n items list output numbers indices s output'' numbers'' indices''
    → SameAll r s output' output'' numbers' numbers'' indices' indices''
sole_of {fault} {matrix} {m} {n} {items} {list} {output} {numbers} {indices} {r} {s} p q =
    let e : r.number ≡ s.number = p.number ∙ sym q.number in
    record {
      answer = same_answers r s e (p.answers
          ∙ ap (λ (k : ℕ). pick (eqb k 0) (answers_of (item_answer matrix m n list (length numbers) (length indices)) items) (repeated (refusal 0) 64)) e
          ∙ sym q.answers);
      written = p.writes
          ∙ ap (λ (k : ℕ). pick (eqb k 0) (joined (item_output matrix m n list (length numbers) (length indices) output) items) output) e ∙ sym q.writes;
      floats = p.floats ∙ ap (λ (k : ℕ). pick (eqb k 0) (repeated plus_zero (length numbers)) numbers) e ∙ sym q.floats;
      words = p.words ∙ ap (λ (k : ℕ). pick (eqb k 0) (repeated 0 (length indices)) indices) e ∙ sym q.words;
    }

-- of a call on doubles
pub sole_all : {matrix : List Float} {m n items : ℕ} {list : Items} {output numbers : List Float} {indices : List ℕ}
    {r s : Answers} {output' output'' numbers' numbers'' : List Float} {indices' indices'' : List ℕ}
    → ThinnedAll matrix m n items list output numbers indices r output' numbers' indices'
    → ThinnedAll matrix m n items list output numbers indices s output'' numbers'' indices''
    → SameAll r s output' output'' numbers' numbers'' indices' indices''
sole_all = sole_of

-- and of one on bits
pub sole_all_bits : (bits : List ℕ) {m n items : ℕ} {list : Items} {output numbers : List Float} {indices : List ℕ}
    {r s : Answers} {output' output'' numbers' numbers'' : List Float} {indices' indices'' : List ℕ}
    → BitsThinnedAll bits m n items list output numbers indices r output' numbers' indices'
    → BitsThinnedAll bits m n items list output numbers indices s output'' numbers'' indices''
    → SameAll r s output' output'' numbers' numbers'' indices' indices''
sole_all_bits bits = sole_of
