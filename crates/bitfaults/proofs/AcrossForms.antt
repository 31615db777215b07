-- Demand 3 across both forms: of two accepted jobs, each from bits or from the doubles that they stand for, the second allowing at least as much, the second's
-- answer is the same or a later stage of the one sequence, as between two jobs from doubles.
use Prim.Native.Nat.{ℕ}
use mathlib.Core.Path.{◌≡◌, sym, ap, ◌∙◌}
use mathlib.Core.Bool.{true}
use mathlib.Core.List.{List}
use lib.ListN.{length}
use lib.Ieee.{Float}
use Rattle.limits.specs.Votes.{expanded}
use Rattle.draw.specs.declared.SplitMix64.{SplitMix64}
use Rattle.rules.specs.declared.Rule.{Rule}
use Rattle.answers.specs.Answers.{Thinned, answer_of}
use Rattle.demand.specs.Demand.{allows, Later}
use Rattle.answers.specs.declared.Answer.{Answer}
use Rattle.answers.proofs.Accepting.{answered}
use Rattle.demand.proofs.Monotone.{Double}
use Rattle.demand.proofs.DemandThree.{Doubles, demand_three}
use Rattle.bitfaults.specs.Refusals.{votes_fault}
use Rattle.bitfaults.specs.Ballots.{InForm}
use Rattle.bitfaults.specs.Ballots.InForm.{from_bits, from_doubles}
use Rattle.bitfaults.proofs.Expanded.{taken, as_doubles}

-- an accepted job in either form is one from the doubles
pub in_doubles : {rule : Rule} {source : SplitMix64} {bits : List ℕ} {m n : ℕ} {w output numbers : List Float} {indices : List ℕ}
    {r : Answer} {output' numbers' : List Float} {indices' : List ℕ}
    → InForm rule source bits m n w output numbers indices r output' numbers' indices' → r.number ≡ 0
    → Thinned rule source (expanded bits m n) m n w output numbers indices r output' numbers' indices'
in_doubles {rule} {source} {bits} {m} {n} {w} {output} {numbers} {indices} (from_bits job) zero =
    let none = answered (votes_fault rule source.edition bits m n w (length output) (length numbers) (length indices))
    (answer_of (expanded bits m n) n w source rule) (sym (ap (λ (x : Answer). x.number) job.answers) ∙ zero) in
    let t = taken rule source.edition bits m n w (length output) (length numbers) (length indices) none in
    as_doubles t.whole t.clear job
in_doubles (from_doubles job) zero = job

pub demand_three_across : {first second : Rule} {source : SplitMix64} {bits : List ℕ} {m n : ℕ} {w : List Float}
    {output numbers : List Float} {indices : List ℕ} {r : Answer} {output' numbers' : List Float} {indices' : List ℕ}
    {output₂ numbers₂ : List Float} {indices₂ : List ℕ} {s : Answer} {output₂' numbers₂' : List Float} {indices₂' : List ℕ}
    → InForm first source bits m n w output numbers indices r output' numbers' indices'
    → InForm second source bits m n w output₂ numbers₂ indices₂ s output₂' numbers₂' indices₂'
    → Double first → Double second → Doubles w → allows first second ≡ true → r.number ≡ 0 → s.number ≡ 0
    → Later (expanded bits m n) n w source second r s output' output₂'
demand_three_across p q A B doubles more zero_first zero-second =
    demand_three (in_doubles p zero_first) (in_doubles q zero-second) A B doubles more zero_first zero-second
