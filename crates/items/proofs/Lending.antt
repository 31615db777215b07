-- A matrix that is lent as doubles or as bits: it is read as the doubles are that it stands for, and an item of a call on it has what the single call gives on
-- these.
use Prim.Native.Nat.{ℕ, ◌≤◌, ◌<◌}
use mathlib.Core.Path.{◌≡◌, refl, sym, ap, ◌∙◌}
use mathlib.Core.Bool.{Bool, true}
use mathlib.Core.List.{List, [], ◌∷◌}
use native.Mathlib.Omega.{arith}
use lib.ListN.{length}
use lib.Ieee.{Float}
use Rattle.seq.specs.Choice.{pick}
use Rattle.seq.specs.Sums.{plus_zero}
use Rattle.ieee.specs.Constants.{one}
use Rattle.limits.specs.Limits.{bounded}
use Rattle.limits.specs.Matrix.{columns_of}
use Rattle.limits.specs.Votes.{expanded}
use Rattle.limits.specs.Reading.{read_of}
use Rattle.limits.proofs.ReadsAs.{no_zero, reads_votes, expanded-at}
use Rattle.weights.specs.Weights.{normalized}
use Rattle.rules.specs.Rules.{rule_fault}
use Rattle.rules.specs.declared.Rule.{Rule}
use Rattle.draw.specs.declared.SplitMix64.{SplitMix64}
use Rattle.faults.specs.Faults.{size_fault, value_fault, job_fault, item_fault}
use Rattle.faults.proofs.Whole.{item_alone}
use Rattle.halved.specs.Handed.{Ready}
use Rattle.stages.proofs.Lengths.{length-normalized}
use Rattle.answers.specs.Answers.{Thinned}
use Rattle.answers.specs.Thinning.{ThinnedFrom}
use Rattle.answers.specs.declared.Answer.{Answer}
use Rattle.answers.proofs.Accepting.{accepted, values_fine, values_on}
use Rattle.answers.proofs.Finishing.{thinned_from, ready_of}
use Rattle.answers.proofs.SameJob.{thinned_same}
use Rattle.items.specs.Lent.{lent_as, Lent}

-- with a byte it stands for what the bits do
pub lent-bits : (matrix : List Float) (bits : List ℕ) (m n : ℕ) → 0 < length bits → lent_as matrix bits m n ≡ expanded bits m n
lent-bits matrix bits m n h = ap (λ (t : Bool). pick t matrix (expanded bits m n)) (no_zero (length bits) h)

lent_reads : (matrix : List Float) (bits : List ℕ) (m n j i : ℕ) → j < m → i < n → read_of matrix bits n j i ≡ columns_of (lent_as matrix bits m n) n j i
lent_reads matrix [] m n j i h l = refl
lent_reads matrix (b ∷ bits) m n j i h l =
    let some : 0 < length (b ∷ bits) = omega arith in
    reads_votes matrix (b ∷ bits) n some j i ∙ sym (expanded-at (b ∷ bits) m n j i h l)
    ∙ ap (λ (xs : List Float). columns_of xs n j i) (sym (lent-bits matrix (b ∷ bits) m n some))

-- what an item has that is not refused
pub record Granted (rule : Rule) (edition : ℕ) (matrix : List Float) (bits : List ℕ) (m n : ℕ) (w output numbers : List Float) (indices : List ℕ) : Type 0 where
  pub fine : job_fault rule edition (lent_as matrix bits m n) m n w (length output) (length numbers) (length indices) ≡ 0
  pub few : m ≤ 256
  pub given : length w ≡ m
  pub left : length output ≡ m
  pub ruled : rule_fault rule ≡ 0
  pub ready : Ready matrix bits n w numbers indices
  pub valued : value_fault matrix w ≡ 0

module _ (rule : Rule) (source : SplitMix64) (matrix : List Float) (bits : List ℕ) (m n : ℕ) (w output numbers : List Float) (indices : List ℕ)
    (lent : Lent matrix bits m n) (sized : size_fault m n (length (lent_as matrix bits m n)) (length w) (length output) (length numbers) (length indices) ≡ 0)
    (entries : bounded one (lent_as matrix bits m n) ≡ true) where
  -- its number on the doubles is that of its own tests
  pub item_number : job_fault rule source.edition (lent_as matrix bits m n) m n w (length output) (length numbers) (length indices)
      ≡ item_fault rule source.edition w
  item_number = item_alone rule source.edition (lent_as matrix bits m n) m n w (length output) (length numbers) (length indices) sized entries

  pub granted : item_fault rule source.edition w ≡ 0 → Granted rule source.edition matrix bits m n w output numbers indices
  granted none =
      let fine = item_number ∙ none in
      let a = accepted rule source.edition (lent_as matrix bits m n) m n w (length output) (length numbers) (length indices) fine in
      record {
        fine = fine;
        few = a.sized.few;
        given = a.sized.given;
        left = a.sized.left;
        ruled = a.ruled;
        ready = ready_of matrix bits m n w output numbers indices lent.whole a.sized lent.small;
        valued = values_on (lent_as matrix bits m n) matrix w lent.small
            (values_fine rule source.edition (lent_as matrix bits m n) m n w (length output) (length numbers) (length indices) fine);
      }

  pub item_thinned : item_fault rule source.edition w ≡ 0 → {r : Answer} {output' numbers' : List Float} {indices' : List ℕ}
      → ThinnedFrom (read_of matrix bits n) n (normalized plus_zero w) source rule numbers indices r output' numbers' indices'
      → Thinned rule source (lent_as matrix bits m n) m n w output numbers indices r output' numbers' indices'
  item_thinned none {r} {output'} {numbers'} {indices'} given =
      let g = granted none in
      thinned_from rule source (lent_as matrix bits m n) m n w output numbers indices g.fine r output' numbers' indices'
      (thinned_same (read_of matrix bits n) (columns_of (lent_as matrix bits m n) n) m n (lent_reads matrix bits m n) (normalized plus_zero w)
      (length-normalized plus_zero w ∙ g.given) source rule given)
