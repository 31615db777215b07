-- Told between functions: what a try of one more pass says.
use Rattle.std.specs.Prelude.{ℕ, ◌≡◌, Bool, true, false, not, ◌&&◌, List, length, Float, Option}
use Rattle.std.specs.Float.Ieee.{le}
use Rattle.seq.specs.Choice.{pick}
use Rattle.seq.specs.Sums.{plus_zero}
use Rattle.change.specs.Margins.{max_change}
use Rattle.weights.specs.Weights.{nonzeros}
use Rattle.halved.specs.Handed.{halves_of}
use Rattle.passed.specs.Halving.{pass_of}
use Rattle.rules.specs.Rules.{meets}
use Rattle.colored.specs.declared.Counted.{Counted}
use Rattle.tried.specs.declared.Outcome.{Outcome}
use Rattle.tried.specs.declared.Outcome.TheVariants.{Discarded, Last, Onward}
use Rattle.tried.specs.declared.Tried.{Tried}

-- how far the pass from w has moved the margins, and whether that is above the allowance
abbrev pub change_after : (ℕ → ℕ → Float) → ℕ → List Float → List Float → Counted → Float
change_after matrix n start w tally = max_change matrix (length start) n start (pass_of plus_zero matrix n (halves_of w tally)).w

abbrev pub above_after : (ℕ → ℕ → Float) → ℕ → List Float → Float → List Float → Counted → Bool
above_after matrix n start allowance w tally = not (le (change_after matrix n start w tally) allowance)

-- the weights of the pass were taken
abbrev pub was_taken : Outcome → Bool
was_taken Discarded = false
was_taken Last = true
was_taken Onward = true

-- another pass is to be tried
abbrev pub goes_onward : Outcome → Bool
goes_onward Discarded = false
goes_onward Last = false
goes_onward Onward = true

-- one more pass was tried from the weights w: where it came to, what it measured, whether it was taken, and whether another is to be
-- tried
pub record TriedOnce (matrix : ℕ → ℕ → Float) (n : ℕ) (start : List Float) (allowance : Float) (cap : Option ℕ)
    (w : List Float) (tally : Counted) (r : Tried) (w' : List Float) : Type 0 where
  pub pass : halves_of (pass_of plus_zero matrix n (halves_of w tally)).w r.tally ≡ pass_of plus_zero matrix n (halves_of w tally)
  pub change : r.change ≡ change_after matrix n start w tally
  pub taken : was_taken r.outcome ≡ not (above_after matrix n start allowance w tally && meets cap (nonzeros w))
  pub weights : w' ≡ pick (was_taken r.outcome) (pass_of plus_zero matrix n (halves_of w tally)).w w
  pub more : goes_onward r.outcome ≡ (was_taken r.outcome && not (above_after matrix n start allowance w tally && meets cap (nonzeros w')))
