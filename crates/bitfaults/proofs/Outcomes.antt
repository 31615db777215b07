-- What the call hands on and what it leaves: the bits are a whole matrix for the passes, whose entries are those of the doubles that they stand for.
use borrow.Author.Tests.{ne_eqb}
use Prim.Native.Nat.{ℕ, ◌≤◌}
use mathlib.Core.Path.{◌≡◌, sym, ap, ◌∙◌}
use mathlib.Core.Bool.{false}
use mathlib.Core.List.{List, []}
use lib.Dec.{eqb}
use lib.ListN.{length}
use lib.Ieee.{Float}
use Rattle.seq.specs.Sums.{plus_zero}
use Rattle.limits.specs.Matrix.{columns_of}
use Rattle.limits.specs.Votes.{expanded}
use Rattle.limits.specs.Reading.{read_of}
use Rattle.limits.proofs.ReadsAs.{bits-whole, reads_expanded}
use Rattle.weights.specs.Weights.{normalized}
use Rattle.rules.specs.Rules.{rule_fault}
use Rattle.rules.specs.declared.Rule.{Rule}
use Rattle.draw.specs.declared.SplitMix64.{SplitMix64}
use Rattle.faults.specs.Faults.{value_fault}
use Rattle.faults.proofs.AsDoubles.{none_outside}
use Rattle.halved.specs.Handed.{Ready}
use Rattle.stages.proofs.Lengths.{length-normalized}
use Rattle.answers.specs.Answers.{refusal}
use Rattle.answers.specs.Thinning.{ThinnedFrom}
use Rattle.answers.specs.declared.Answer.{Answer}
use Rattle.answers.proofs.Accepting.{accepted, values_fine, values_on}
use Rattle.answers.proofs.Finishing.{thinned_from, ready_of}
use Rattle.answers.proofs.SameJob.{thinned_same}
use Rattle.bitfaults.specs.Refusals.{votes_fault}
use Rattle.bitfaults.specs.Ballots.{BitsThinned}
use Rattle.bitfaults.proofs.Expanded.{taken, taken_doubles, from_doubles}

-- ---- what is handed on

-- what a job from bits has that is not refused
pub record Granted (rule : Rule) (bits : List ℕ) (m n : ℕ) (w output numbers : List Float) (indices : List ℕ) : Type 0 where
  pub few : m ≤ 256
  pub given : length w ≡ m
  pub left : length output ≡ m
  pub ruled : rule_fault rule ≡ 0
  pub ready : Ready [] bits n w numbers indices
  pub valued : value_fault [] w ≡ 0

pub granted : (rule : Rule) (edition : ℕ) (bits : List ℕ) (m n : ℕ) (w output numbers : List Float) (indices : List ℕ)
    → votes_fault rule edition bits m n w (length output) (length numbers) (length indices) ≡ 0 → Granted rule bits m n w output numbers indices
granted rule edition bits m n w output numbers indices none =
    let t = taken rule edition bits m n w (length output) (length numbers) (length indices) none in
    let fine = taken_doubles rule edition bits m n w (length output) (length numbers) (length indices) none in
    let a = accepted rule edition (expanded bits m n) m n w (length output) (length numbers) (length indices) fine in
    record {
      few = a.sized.few;
      given = a.sized.given;
      left = a.sized.left;
      ruled = a.ruled;
      ready = ready_of [] bits m n w output numbers indices (bits-whole bits m n t.whole) a.sized none_outside;
      valued = values_on (expanded bits m n) [] w none_outside (values_fine rule edition (expanded bits m n) m n w _ _ _ fine);
    }

-- ---- what is left

-- refused
pub bits_refused : (rule : Rule) (source : SplitMix64) (bits : List ℕ) (m n : ℕ) (w output numbers : List Float) (indices : List ℕ) (k : ℕ) (r : Answer)
    → k ≡ votes_fault rule source.edition bits m n w (length output) (length numbers) (length indices) → (k ≡ 0 → ⊥) → r ≡ refusal k
    → BitsThinned rule source bits m n w output numbers indices r output numbers indices
bits_refused rule source bits m n w output numbers indices k r e h a =
    let z : eqb (votes_fault rule source.edition bits m n w (length output) (length numbers) (length indices)) 0 ≡ false = rw (← e) (ne_eqb k 0 h) in
    record {
      answers = a ∙ ap refusal e ∙ sym (rw z);
      writes = sym (rw (a, ne_eqb k 0 h));
      floats = sym (rw (a, ne_eqb k 0 h));
      words = sym (rw (a, ne_eqb k 0 h));
    }

-- accepted
pub bits_thinned : (rule : Rule) (source : SplitMix64) (bits : List ℕ) (m n : ℕ) (w output numbers : List Float) (indices : List ℕ)
    → votes_fault rule source.edition bits m n w (length output) (length numbers) (length indices) ≡ 0
    → {r : Answer} {output' numbers' : List Float} {indices' : List ℕ}
    → ThinnedFrom (read_of [] bits n) n (normalized plus_zero w) source rule numbers indices r output' numbers' indices'
    → BitsThinned rule source bits m n w output numbers indices r output' numbers' indices'
bits_thinned rule source bits m n w output numbers indices none {r} {output'} {numbers'} {indices'} given =
    let t = taken rule source.edition bits m n w (length output) (length numbers) (length indices) none in
    let g = granted rule source.edition bits m n w output numbers indices none in
    from_doubles t.whole t.clear
    (thinned_from rule source (expanded bits m n) m n w output numbers indices
    (taken_doubles rule source.edition bits m n w (length output) (length numbers) (length indices) none)
    r output' numbers' indices' (thinned_same (read_of [] bits n) (columns_of (expanded bits m n) n) m n (reads_expanded bits m n t.whole)
    (normalized plus_zero w) (length-normalized plus_zero w ∙ g.given) source rule given))
