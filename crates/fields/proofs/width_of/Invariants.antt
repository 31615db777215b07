-- `fields::width_of` meets its contract: each turn takes one digit off, and twenty are enough.
use Rattle.fields.proofs.Turns.{Dividing}
use Rattle.fields.proofs.width_of.Given as goal

abbrev pub invariant-loop-rest : goal.invariant-loop-rest
invariant-loop-rest l = Dividing l.x l.rest l.w

abbrev pub decreases-loop-rest : goal.decreases-loop-rest
decreases-loop-rest l = l.rest
