-- Margins from labels and votes: what a call is refused for, and what it answers and leaves, for every argument.
use Rattle.std.specs.Prelude.{ℕ, ◌%◌, ◌≡◌, Bool, ◌&&◌, List, ℤ, pos, negsuc, eqb, length, get_or, Float}
use Rattle.std.specs.Float.{binary64}
use Rattle.std.specs.Float.Ieee.{of_int, mul}
use Rattle.seq.specs.Choice.{pick, or_else}
use Rattle.seq.specs.Lists.{tabulate, repeated}
use Rattle.seq.specs.Sums.{plus_zero, at}
use Rattle.seq.specs.Keep.{all_to}
use Rattle.limits.specs.Limits.{too_large}
use Rattle.draw.specs.declared.SplitMix64.{SplitMix64}
use Rattle.rules.specs.Rules.{rule_fault}
use Rattle.rules.specs.declared.Rule.{Rule}
use Rattle.faults.specs.Faults.{edition_fault, size_fault, value_fault}
use Rattle.answers.specs.Answers.{refusal, answer_of, returned}
use Rattle.answers.specs.declared.Answer.{Answer}
use Rattle.packing.specs.Packed.{packed_columns, packed_weights}

-- 1 or -1
abbrev pub is_label : ℤ → Bool
is_label (pos k) = eqb k 1
is_label (negsuc k) = eqb k 0

-- every label is
abbrev pub all_labels : List ℤ → Bool
all_labels labels = all_to (λ i. is_label (get_or labels i (pos 0))) (length labels)

-- entry k of the matrix of margins, column after column, each n long: the label of its row times the confidence
abbrev pub margin_of : List ℤ → ℕ → List Float → ℕ → Float
margin_of labels n confidences k = mul binary64 (of_int binary64 (get_or labels (k % n) (pos 0))) (at confidences k)

-- the matrix of margins
abbrev pub margins_of : List ℤ → ℕ → List Float → List Float
margins_of labels n confidences = tabulate (margin_of labels n confidences) (length confidences)

-- 3 to 6 as of any job whose output is the list of columns; but 4 is given also for labels that are not n, and for a list of kept weights
-- that is not m
unfoldable pub list_fault : ℕ → ℕ → ℕ → ℕ → ℕ → ℕ → ℕ → ℕ → ℕ → ℕ
list_fault m n confidences labels weights columns kept numbers indices =
    pick (eqb labels n && eqb kept m) (size_fault m n confidences weights columns numbers indices) (pick (too_large m n) 3 4)

-- before the values: the rule, the edition, the sizes, and 14 a label other than 1 or -1
unfoldable pub call_fault : Rule → ℕ → ℕ → List ℤ → ℕ → ℕ → ℕ → ℕ → ℕ → ℕ → ℕ → ℕ
call_fault rule edition confidences labels m n weights columns kept numbers indices =
    or_else (rule_fault rule)
    (or_else (edition_fault edition)
    (or_else (list_fault m n confidences (length labels) weights columns kept numbers indices)
    (pick (all_labels labels) 0 14)))

-- the first number that applies, in the order 1, 12, 2, 13, 3, .., 6, 14, 7, 8, 9: 7 is of the confidences
unfoldable pub votes_fault : Rule → ℕ → List Float → List ℤ → ℕ → ℕ → List Float → ℕ → ℕ → ℕ → ℕ → ℕ
votes_fault rule edition confidences labels m n w columns kept numbers indices =
    or_else (call_fault rule edition (length confidences) labels m n (length w) columns kept numbers indices) (value_fault confidences w)

-- The answer, the two lists and the scratch. The answer is that of the job on the matrix of margins, and the lists hold the weights that
-- it returns, packed. A refusal changes nothing, and an accepted job zeroes the scratch.
pub record VotesThinned (rule : Rule) (source : SplitMix64) (confidences : List Float) (labels : List ℤ) (m n : ℕ) (w : List Float)
    (columns : List ℕ) (kept numbers : List Float) (indices : List ℕ)
    (r : Answer) (columns' : List ℕ) (kept' numbers' : List Float) (indices' : List ℕ) : Type 0 where
  pub answers : r ≡ pick
      (eqb (votes_fault rule source.edition confidences labels m n w (length columns) (length kept) (length numbers) (length indices)) 0)
      (answer_of (margins_of labels n confidences) n w source rule)
      (refusal
      (votes_fault rule source.edition confidences labels m n w (length columns) (length kept) (length numbers) (length indices)))
  pub numbered : columns' ≡ pick (eqb r.number 0) (packed_columns (returned (margins_of labels n confidences) n w source rule).w) columns
  pub weighed : kept' ≡ pick (eqb r.number 0) (packed_weights (returned (margins_of labels n confidences) n w source rule).w) kept
  pub floats : numbers' ≡ pick (eqb r.number 0) (repeated plus_zero (length numbers)) numbers
  pub words : indices' ≡ pick (eqb r.number 0) (repeated 0 (length indices)) indices
