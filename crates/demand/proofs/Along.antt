-- One accepted job: it keeps what its rule asks for, and the path in its answer. There are at most nine stages, each pass leaves at most half of the
-- nonzeros, rounded down, so that they fall strictly, every stage has one, and the single fields are the returned stage's entry. And how much it draws
-- and sweeps at most.
use Prim.Native.Nat.{ℕ, zero, suc, ◌*◌, ◌≤◌, ◌<◌}
use mathlib.Core.Path.{◌≡◌, ap, ◌∙◌}
use mathlib.Core.Bool.{true}
use mathlib.Core.List.{List}
use native.Mathlib.Omega.{arith}
use lib.ListN.{length, get_or}
use lib.Ieee.{Float, nan, binary64, of_bits, lt}
use lib.Ieee.Scale.{finite}
use Rattle.seq.specs.Sums.{plus_zero, at}
use Rattle.limits.specs.Matrix.{columns_of}
use Rattle.seq.proofs.Choosing.{both, shown}
use Rattle.ieee.specs.Magnitude.{abs_of}
use Rattle.ieee.proofs.Ops.{Positive}
use Rattle.ieee.proofs.Normalised.{Normal}
use Rattle.ieee.proofs.Tests.{positive_of_tests}
use Rattle.ieee.proofs.Zeros.{sum_fits}
use Rattle.weights.specs.Weights.{l1_of, normalized}
use Rattle.passed.proofs.Left.{normalized-some, pass_some}
use Rattle.rules.specs.declared.Rule.{Rule}
use Rattle.stages.specs.Stages.{stage_of, moved_by}
use Rattle.stages.specs.Stopping.{entries_at}
use Rattle.stages.proofs.Halting.{Falls, leads}
use Rattle.stages.proofs.Lengths.{length-normalized, length-stage}
use Rattle.stages.proofs.Passing.{falling, normal_stage}
use Rattle.stages.proofs.Following.{path_at, nine_stages}
use Rattle.stages.proofs.Totals.{job_directions, job_sweeps}
use Rattle.answers.specs.Answers.{answer_at, stop_for, Thinned}
use Rattle.demand.specs.Demand.{keeps}
use Rattle.answers.specs.declared.Answer.{Answer}
use Rattle.answers.proofs.Accepting.{Accepted, accepted, number_none, answer_stage}
use Rattle.demand.proofs.DemandThree.{Doubles, start_normal, start_few, kept_there}
use Rattle.draw.specs.declared.SplitMix64.{SplitMix64}

module _ {rule : Rule} {source : SplitMix64} {matrix : List Float} {m n : ℕ} {w output numbers : List Float} {indices : List ℕ}
    {r : Answer} {output' numbers' : List Float} {indices' : List ℕ}
    (job : Thinned rule source matrix m n w output numbers indices r output' numbers' indices') (doubles : Doubles w) (ok : r.number ≡ 0) where
  abbrev start : List Float
  start = normalized plus_zero w

  abbrev stop : ℕ
  stop = stop_for matrix n w source rule

  fine : Accepted rule matrix m n w (length output) (length numbers) (length indices)
  fine = accepted rule source.edition matrix m n w (length output) (length numbers) (length indices) (number_none job ok)

  normal : Normal binary64 (length start) (at start)
  normal = start_normal doubles fine

  long : length start ≡ m
  long = length-normalized plus_zero w ∙ fine.sized.given

  falls : Falls plus_zero (columns_of matrix n) n start source
  falls = falling (columns_of matrix n) n start source normal (start_few doubles fine)

  is : r ≡ answer_at (columns_of matrix n) n start source rule stop
  is = answer_stage job (number_none job ok)

  -- what the rule asks for
  pub one-keeps : keeps rule r ≡ true
  one-keeps = rw is (kept_there (columns_of matrix n) n start source normal (start_few doubles fine) rule fine.ruled)

  -- stages 0 to 8
  pub at-most_nine : r.stage ≤ 8
  at-most_nine =
      rw is (nine_stages (columns_of matrix n) n start source falls (start_few doubles fine) stop
      (leads plus_zero (columns_of matrix n) n start source falls rule fine.ruled))

  -- at most eight directions for each weight, and at most 1600 sweeps
  pub directions_few : r.directions ≤ 8 * m
  directions_few =
      rw is (omega (arith, job_directions (columns_of matrix n) n start source falls (start_few doubles fine) rule fine.ruled, long))

  pub sweeps_few : r.sweeps ≤ 1600
  sweeps_few = rw is (job_sweeps (columns_of matrix n) n start source falls (start_few doubles fine) rule fine.ruled)

  -- the single fields
  pub single_nonzeros : get_or r.path_nonzeros r.stage 0 ≡ r.nonzeros
  single_nonzeros = rw is (path_at 0 (entries_at plus_zero (columns_of matrix n) n start source) stop stop 0 (omega arith))

  pub single_change : get_or r.path_change r.stage nan ≡ r.change
  single_change = rw is (path_at plus_zero (λ i. moved_by (columns_of matrix n) n start (stage_of plus_zero (columns_of matrix n) n start source i))
      stop stop nan (omega arith))

  -- along the path
  entries_at_lem : (i : ℕ) → i ≤ r.stage → get_or r.path_nonzeros i 0 ≡ entries_at plus_zero (columns_of matrix n) n start source i
  entries_at_lem i l =
      let e : r.stage ≡ stop = ap (λ (x : Answer). x.stage) is in
      ap (λ (x : Answer). get_or x.path_nonzeros i 0) is ∙ path_at 0 (entries_at plus_zero (columns_of matrix n) n start source) stop i 0 (omega arith)

  pub at-most-half : (i : ℕ) → i < r.stage → 2 * get_or r.path_nonzeros (suc i) 0 ≤ get_or r.path_nonzeros i 0
  at-most-half i l =
      let e : r.stage ≡ stop = ap (λ (x : Answer). x.stage) is in
      let f = falls i (λ j k. leads plus_zero (columns_of matrix n) n start source falls rule fine.ruled j (omega arith)) in
      omega (arith, f, entries_at_lem i (omega arith), entries_at_lem (suc i) (omega arith))

  pub strictly_fewer : (i : ℕ) → i < r.stage → get_or r.path_nonzeros (suc i) 0 < get_or r.path_nonzeros i 0
  strictly_fewer i l =
      let e : r.stage ≡ stop = ap (λ (x : Answer). x.stage) is in
      omega (arith, at-most-half i l, leads plus_zero (columns_of matrix n) n start source falls rule fine.ruled i (omega arith), entries_at_lem i (omega arith))

  -- every stage has a nonzero
  start-positive : Positive binary64 (l1_of plus_zero w)
  unfolding l1_of of_bits
  start-positive =
      let e = both (lt plus_zero (l1_of plus_zero w)) (finite (l1_of plus_zero w)) fine.valued.total in
      positive_of_tests (sum_fits binary64 (λ j. abs_of (at w j)) (length w)) (shown (finite (l1_of plus_zero w)) e.1)
      (shown (lt plus_zero (l1_of plus_zero w)) e.0)

  some_at : (i : ℕ) → i ≤ stop → 1 ≤ entries_at plus_zero (columns_of matrix n) n start source i
  unfolding stage_of
  some_at zero l =
      normalized-some w (λ j k. record { held = doubles j; ends = fine.valued.ends j k }) (omega (arith, fine.sized.given, fine.sized.few)) start-positive
  some_at (suc i) l =
      let before = leads plus_zero (columns_of matrix n) n start source falls rule fine.ruled in
      pass_some (columns_of matrix n) n (stage_of plus_zero (columns_of matrix n) n start source i) (before i (omega arith))
      (normal_stage (columns_of matrix n) n start source normal (start_few doubles fine) i (λ j k. before j (omega arith)))
      (rw (length-stage plus_zero (columns_of matrix n) n start source i) (start_few doubles fine))

  pub every_some : (i : ℕ) → i ≤ r.stage → 1 ≤ get_or r.path_nonzeros i 0
  every_some i l =
      let e : r.stage ≡ stop = ap (λ (x : Answer). x.stage) is in
      omega (arith, some_at i (omega arith), entries_at_lem i l)
