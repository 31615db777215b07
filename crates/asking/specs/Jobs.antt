-- What the job of a sheet is refused for, what it answers, and the text of that.
use Rattle.std.specs.Prelude.{ℕ, ◌||◌, List, eqb, Float}
use Rattle.seq.specs.Choice.{pick, or_else}
use Rattle.draw.specs.declared.SplitMix64.{SplitMix64}
use Rattle.draw.specs.SplitMix.{seeded}
use Rattle.rules.specs.declared.Rule.{Rule}
use Rattle.rules.specs.Rules.{rule_fault}
use Rattle.faults.specs.Faults.{value_fault}
use Rattle.answers.specs.declared.Answer.{Answer}
use Rattle.answers.specs.Answers.{refusal, answer_of, returned}
use Rattle.head.specs.declared.Head.{Head}
use Rattle.answering.specs.Answer.{answer_text}

-- What a sheet's job is refused for: of the numbers, a sheet can reach 1, 12, 2, 5, 7, 8 and 9; its edition is 1 or 2.
unfoldable pub sheet_fault : Rule → List Float → ℕ → ℕ → List Float → ℕ
sheet_fault rule matrix m n w = or_else (rule_fault rule) (or_else (pick (eqb m 0 || eqb n 0) 5 0) (value_fault matrix w))

-- what the job of a matrix, weights, generator and rule answers
unfoldable pub job_answer : Rule → SplitMix64 → List Float → ℕ → ℕ → List Float → Answer
job_answer rule source matrix m n w = pick (eqb (sheet_fault rule matrix m n w) 0) (answer_of matrix n w source rule)
    (refusal (sheet_fault rule matrix m n w))

-- the text that answers the job
abbrev pub job_text : Rule → SplitMix64 → List Float → ℕ → ℕ → List Float → List ℕ
job_text rule source matrix m n w = answer_text (job_answer rule source matrix m n w) (returned matrix n w source rule).w

-- the generator that a first line names
abbrev pub source_of : Head → SplitMix64
source_of h = seeded h.seed h.edition
