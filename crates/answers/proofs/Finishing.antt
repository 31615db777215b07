-- What a job leaves: refused, or with the stage at which it stops.
use Prim.Native.Nat.{ℕ, ◌+◌, ◌*◌, ◌≤◌}
use mathlib.Core.Path.{◌≡◌, sym, ap, ◌∙◌}
use mathlib.Core.Bool.{true, false}
use mathlib.Core.List.{List, []}
use native.Mathlib.Omega.{arith}
use native.Mathlib.Nat.{mul-le-mul_right}
use lib.Dec.{eqb}
use lib.ListN.{length}
use lib.Ieee.{Float, nan, binary64, le}
use borrow.Author.Tests.{ne_eqb}
use Rattle.seq.specs.Lists.{repeated}
use Rattle.seq.specs.Sums.{plus_zero, at}
use Rattle.ieee.specs.Magnitude.{abs_of}
use Rattle.ieee.proofs.Division.{unit, unit_is}
use Rattle.ieee.proofs.Normalised.{Normal, normal_le}
use Rattle.limits.specs.Matrix.{columns_of}
use Rattle.limits.specs.Limits.{bounded}
use Rattle.limits.specs.Reading.{Whole}
use Rattle.ieee.specs.Constants.{one}
use Rattle.weights.specs.Weights.{normalized}
use Rattle.halved.specs.Handed.{Ready}
use Rattle.seq.proofs.Every.{every_holds}
use Rattle.seq.proofs.Choosing.{holds}
use Rattle.stages.specs.Stages.{stage_of, moved_by}
use Rattle.stages.specs.Stopping.{entries_at, stop_of, passes_to}
use Rattle.stages.specs.Paths.{Noted, Followed}
use Rattle.stages.specs.declared.Path.{Path}
use Rattle.stages.proofs.Following.{path_at}
use Rattle.faults.specs.Faults.{job_fault}
use Rattle.answers.specs.Answers.{refusal, answer_at, answer_of, Thinned}
use Rattle.answers.specs.Thinning.{answer_for, ThinnedFrom}
use Rattle.answers.specs.declared.Answer.{Answer}
use Rattle.rules.specs.declared.Rule.{Rule}
use Rattle.answers.proofs.Accepting.{Sized}
use Rattle.draw.specs.declared.SplitMix64.{SplitMix64}

-- the answer for the end of a path is that for its stage
answer_noted : (matrix : ℕ → ℕ → Float) (n : ℕ) (start : List Float) (source : SplitMix64) (rule : Rule) (k : ℕ) (p : Path)
    → Noted matrix n start source k (passes_to plus_zero matrix n start source rule k) p → answer_for p ≡ answer_at matrix n start source rule k
answer_noted matrix n start source rule k p q =
    rw (q.stage, q.nonzeros, q.change, q.directions, q.sweeps, path_at 0 (entries_at plus_zero matrix n start source) k k 0 (omega arith))
    (rw (path_at plus_zero (λ i. moved_by matrix n start (stage_of plus_zero matrix n start source i)) k k nan (omega arith)))

-- a job from normalized weights: the stages were followed from a copy of them
pub done-from : (matrix : ℕ → ℕ → Float) (n : ℕ) (start : List Float) (source : SplitMix64) (rule : Rule) {copy output' : List Float} {p : Path} → copy ≡ start
    → Followed matrix n copy source rule p output' → (numbers numbers' : List Float) (indices indices' : List ℕ) (r : Answer)
    → r ≡ answer_for p → numbers' ≡ repeated plus_zero (length numbers) → indices' ≡ repeated 0 (length indices)
    → ThinnedFrom matrix n start source rule numbers indices r output' numbers' indices'
done-from matrix n start source rule {copy} {output'} {p} copied follows numbers numbers' indices indices' r a N I =
    let f : Followed matrix n start source rule p output' = rw copied at follows in
    record {
      answers = a ∙ answer_noted matrix n start source rule (stop_of plus_zero matrix n start source rule) p
          f.path;
      writes = f.weights;
      floats = N;
      words = I;
    }

module _ (rule : Rule) (source : SplitMix64) (matrix : List Float) (m n : ℕ) (w output numbers : List Float) (indices : List ℕ) where
  -- refused
  pub thinned_refused : (k : ℕ) (r : Answer) → k ≡ job_fault rule source.edition matrix m n w (length output) (length numbers) (length indices) → (k ≡ 0 → ⊥)
      → r ≡ refusal k → Thinned rule source matrix m n w output numbers indices r output numbers indices
  thinned_refused k r e h a =
      let z : eqb (job_fault rule source.edition matrix m n w (length output) (length numbers) (length indices)) 0 ≡ false = rw (← e) (ne_eqb k 0 h) in
      record {
        answers = a ∙ ap refusal e ∙ sym (rw z);
        writes = sym (rw (a, ne_eqb k 0 h));
        floats = sym (rw (a, ne_eqb k 0 h));
        words = sym (rw (a, ne_eqb k 0 h));
      }

  -- accepted
  pub thinned_from : job_fault rule source.edition matrix m n w (length output) (length numbers) (length indices) ≡ 0
      → (r : Answer) (output' numbers' : List Float) (indices' : List ℕ)
      → ThinnedFrom (columns_of matrix n) n (normalized plus_zero w) source rule numbers indices r output' numbers' indices'
      → Thinned rule source matrix m n w output numbers indices r output' numbers' indices'
  unfolding answer_of
  thinned_from z r output' numbers' indices' p =
      record {
        answers = p.answers ∙ sym (rw z);
        writes = p.writes ∙ sym (rw p.answers);
        floats = p.floats ∙ sym (rw p.answers);
        words = p.words ∙ sym (rw p.answers);
      }

-- the normalized weights of an accepted job are at most 1 in magnitude
pub start-bounded : (w : List Float) (k : ℕ) → Normal binary64 k (at w) → length w ≡ k → bounded one w ≡ true
start-bounded w k normal e = every_holds (λ j. le (abs_of (at w j)) one) (length w)
    (λ j l. ap (le (abs_of (at w j))) unit_is ∙ holds (le (abs_of (at w j)) unit) (normal_le normal j (rw e at l)))

-- doubles with no bits beside them are a whole matrix
pub doubles_whole : (matrix : List Float) (m n : ℕ) → length matrix ≡ m * n → Whole matrix [] m n
doubles_whole matrix m n long = record { doubles = λ _. long; votes = λ h. absurd (omega arith) }

-- the sizes of an accepted job are those that a pass asks for, on a matrix that is lent whole
pub ready_of : (matrix : List Float) (bits : List ℕ) (m n : ℕ) (w output numbers : List Float) (indices : List ℕ) → Whole matrix bits m n → {entries : ℕ}
    → Sized m n entries (length w) (length output) (length numbers) (length indices) → bounded one matrix ≡ true → Ready matrix bits n w numbers indices
ready_of matrix bits m n w output numbers indices whole s small =
    let e : length w ≡ m = s.given in
    record {
      whole = rw e whole;
      few = rw e s.few;
      short = s.short;
      floats = rw e (omega (arith, s.floats, room m n s.columns));
      words = omega (arith, s.words);
      small = small;
    }
  where
    room : (m n : ℕ) → 1 ≤ m → n + 1 ≤ m * (n + 1)
    room m n h = omega (arith, mul-le-mul_right (n + 1) h)
