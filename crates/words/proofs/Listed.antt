-- The list of an accepted job is never refused: its weights before and after are at most 1 in magnitude, and every length is that of the job. So after `ok`
-- there is a line for each word.
use Prim.Native.Nat.{ℕ, ◌*◌, ◌≤◌}
use mathlib.Core.Path.{◌≡◌, refl, sym, ◌∙◌}
use mathlib.Core.Bool.{true}
use mathlib.Core.List.{List}
use native.Mathlib.Omega.{arith}
use borrow.Author.Tests.{eq-eqb, le-ltb}
use lib.ListN.{length}
use lib.Ieee.{Float, binary64}
use Rattle.seq.specs.Sums.{plus_zero, at}
use Rattle.ieee.specs.Constants.{one}
use Rattle.ieee.proofs.Normalised.{Normal}
use Rattle.limits.specs.Limits.{bounded}
use Rattle.limits.specs.Matrix.{columns_of}
use Rattle.draw.specs.declared.SplitMix64.{SplitMix64}
use Rattle.weights.specs.Weights.{normalized}
use Rattle.rules.specs.declared.Rule.{Rule}
use Rattle.faults.specs.Faults.{edition_fault, job_fault}
use Rattle.stages.specs.Stages.{stage_of}
use Rattle.stages.proofs.Halting.{leads}
use Rattle.stages.proofs.Lengths.{length-stage, length-normalized}
use Rattle.stages.proofs.Passing.{falling, normal_stage}
use Rattle.answers.specs.Answers.{stop_for, returned}
use Rattle.answers.proofs.Accepting.{Accepted, accepted}
use Rattle.demand.proofs.DemandThree.{Doubles, start_normal, start_few}
use Rattle.answers.proofs.Finishing.{start-bounded}
use Rattle.marking.specs.Moved.{moved_rows, changes_at}
use Rattle.movefaults.specs.Answers.{length_fault, range_fault, moved_fault, lent_changes}
use Rattle.asking.specs.Jobs.{sheet_fault}
use Rattle.asking.proofs.Jobs.{sheet_fault_lem}
use Rattle.wordlines.specs.Lines.{word_lines, words_of}

module _ (rule : Rule) (source : SplitMix64) (matrix : List Float) (m n : ℕ) (w : List Float) (output numbers indices : ℕ) (doubles : Doubles w)
    (fine : job_fault rule source.edition matrix m n w output numbers indices ≡ 0) where
  abbrev start : List Float
  start = normalized plus_zero w

  abbrev last : List Float
  last = (returned matrix n w source rule).w

  job : Accepted rule matrix m n w output numbers indices
  job = accepted rule source.edition matrix m n w output numbers indices fine

  normal : Normal binary64 (length start) (at start)
  normal = start_normal doubles job

  few : length start ≤ 256
  few = start_few doubles job

  last_normal : Normal binary64 (length last) (at last)
  last_normal =
      normal_stage (columns_of matrix n) n start source normal few (stop_for matrix n w source rule)
      (leads plus_zero (columns_of matrix n) n start source (falling (columns_of matrix n) n start source normal few) rule job.ruled)

  before_long : length start ≡ m
  before_long = length-normalized plus_zero w ∙ job.sized.given

  after_long : length last ≡ m
  after_long = length-stage plus_zero (columns_of matrix n) n start source (stop_for matrix n w source rule) ∙ before_long

  pub list_accepted : moved_fault matrix m n start last n n ≡ 0
  unfolding moved_fault length_fault range_fault
  list_accepted =
      rw (
        le-ltb 256 m job.sized.few,
        le-ltb 4096 n job.sized.short,
        eq-eqb (length matrix) (m * n) job.sized.whole,
        eq-eqb (length start) m before_long,
        eq-eqb (length last) m after_long,
        eq-eqb n n refl,
        job.valued.entries,
        start-bounded start (length start) normal refl,
        start-bounded last (length last) last_normal refl,
      )

  -- so the words are a line for each row, in the list's order
  pub a_line_each : words_of matrix m n start last
      ≡ word_lines (moved_rows (lent_changes matrix m n start last))
      (changes_at (lent_changes matrix m n start last) (moved_rows (lent_changes matrix m n start last))) n
  unfolding words_of
  a_line_each = rw list_accepted

-- of a sheet's job that is not refused
pub sheet_lists : (rule : Rule) (source : SplitMix64) (matrix : List Float) (m n : ℕ) (w : List Float) → Doubles w → edition_fault source.edition ≡ 0
    → m ≤ 32 → n ≤ 64 → length matrix ≡ m * n → length w ≡ m → sheet_fault rule matrix m n w ≡ 0
    → words_of matrix m n (normalized plus_zero w) (returned matrix n w source rule).w
    ≡ word_lines (moved_rows (lent_changes matrix m n (normalized plus_zero w) (returned matrix n w source rule).w))
    (changes_at (lent_changes matrix m n (normalized plus_zero w) (returned matrix n w source rule).w)
    (moved_rows (lent_changes matrix m n (normalized plus_zero w) (returned matrix n w source rule).w))) n
sheet_lists rule source matrix m n w doubles known few short whole given none =
    a_line_each rule source matrix m n w m 4136 776 doubles (sheet_fault_lem rule source.edition matrix m n w m known few short whole given refl ∙ none)
