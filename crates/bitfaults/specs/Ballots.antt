-- What a thinning from bits answers and leaves, for every argument: what one from the doubles does that the bits stand for.
use Rattle.std.specs.Prelude.{ℕ, ◌≡◌, List, eqb, length, Float}
use Rattle.seq.specs.Choice.{pick}
use Rattle.seq.specs.Lists.{repeated}
use Rattle.seq.specs.Sums.{plus_zero}
use Rattle.limits.specs.Votes.{expanded}
use Rattle.draw.specs.declared.SplitMix64.{SplitMix64}
use Rattle.answers.specs.Answers.{refusal, answer_of, returned, Thinned}
use Rattle.answers.specs.declared.Answer.{Answer}
use Rattle.rules.specs.declared.Rule.{Rule}
use Rattle.bitfaults.specs.Refusals.{votes_fault}

-- a refusal changes nothing, and an accepted job writes its stage and zeroes the scratch
pub record BitsThinned (rule : Rule) (source : SplitMix64) (bits : List ℕ) (m n : ℕ) (w output numbers : List Float) (indices : List ℕ)
    (r : Answer) (output' numbers' : List Float) (indices' : List ℕ) : Type 0 where
  pub answers : r ≡ pick (eqb (votes_fault rule source.edition bits m n w (length output) (length numbers) (length indices)) 0)
      (answer_of (expanded bits m n) n w source rule)
      (refusal (votes_fault rule source.edition bits m n w (length output) (length numbers) (length indices)))
  pub writes : output' ≡ pick (eqb r.number 0) (returned (expanded bits m n) n w source rule).w output
  pub floats : numbers' ≡ pick (eqb r.number 0) (repeated plus_zero (length numbers)) numbers
  pub words : indices' ≡ pick (eqb r.number 0) (repeated 0 (length indices)) indices

-- the outcome of a job in either form: from bits, or from the doubles that they stand for
pub data InForm (rule : Rule) (source : SplitMix64) (bits : List ℕ) (m n : ℕ) (w output numbers : List Float) (indices : List ℕ)
    (r : Answer) (output' numbers' : List Float) (indices' : List ℕ) : Type 0 where
  from_bits : BitsThinned rule source bits m n w output numbers indices r output' numbers' indices'
      → InForm rule source bits m n w output numbers indices r output' numbers' indices'
  from_doubles : Thinned rule source (expanded bits m n) m n w output numbers indices r output' numbers' indices'
      → InForm rule source bits m n w output numbers indices r output' numbers' indices'
