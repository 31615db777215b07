-- Two jobs on one matrix, weights, seed and edition, of one kind, the second allowing at least as much: its answer is the same or a
-- later stage of the one sequence, its nonzero entries stand among the first's with the same signs, and each keeps what its rule asks for.
use Rattle.std.specs.Prelude.{ℕ, ◌≤◌, ◌≡◌, Bool, true, false, ◌&&◌, List, leb, Float, None, Option, Some}
use Rattle.std.specs.Float.Ieee.{le}
use Rattle.seq.specs.Sums.{plus_zero}
use Rattle.limits.specs.Matrix.{columns_of}
use Rattle.weights.specs.Weights.{normalized}
use Rattle.stages.specs.Stages.{stage_of}
use Rattle.stages.specs.Among.{Among}
use Rattle.answers.specs.declared.Answer.{Answer}
use Rattle.rules.specs.declared.Rule.{Rule}
use Rattle.rules.specs.declared.Rule.TheVariants.{Target, Within}
use Rattle.draw.specs.declared.SplitMix64.{SplitMix64}

-- The second cap is at least as hard to meet: any cap beside an absent one, and a cap that is no larger beside a cap.
-- An absent cap beside a cap is not: with a matrix that moves a margin, allowance 0 and cap 1 thin to one entry, and allowance 0 alone
-- stays at stage 0.
abbrev pub as_tight : Option ℕ → Option ℕ → Bool
as_tight None second = true
as_tight (Some c) None = false
as_tight (Some c) (Some d) = leb d c

-- The second rule is of the first's kind and allows at least as much thinning: a target that is no larger, or an allowance that is no
-- smaller
-- together with a cap that is as tight. So the same cap with a larger allowance is covered, the same allowance with a smaller cap, and
-- both.
abbrev pub allows : Rule → Rule → Bool
allows (Target t) (Target s) = leb s t
allows (Target t) (Within b d) = false
allows (Within a c) (Target s) = false
allows (Within a c) (Within b d) = le a b && as_tight c d

-- what a rule asks of its answer: at most so many nonzeros, a change within the allowance where there is no cap, and the cap where
-- there is one
abbrev pub keeps : Rule → Answer → Bool
keeps (Target t) r = leb r.nonzeros t
keeps (Within a None) r = le r.change a
keeps (Within a (Some c)) r = leb r.nonzeros c

-- two answers r and s with their outputs, the second's rule given
pub record Later (matrix : List Float) (n : ℕ) (w : List Float) (source : SplitMix64) (rule : Rule) (r s : Answer)
    (first second : List Float) : Type 0 where
  pub later : r.stage ≤ s.stage
  pub one : first ≡ (stage_of plus_zero (columns_of matrix n) n (normalized plus_zero w) source r.stage).w
  pub other : second ≡ (stage_of plus_zero (columns_of matrix n) n (normalized plus_zero w) source s.stage).w
  pub among : Among first second
  pub kept : keeps rule s ≡ true
