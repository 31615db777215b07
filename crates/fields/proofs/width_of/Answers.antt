-- `fields::width_of` meets its contract: each turn takes one digit off, and twenty are enough.
use Rattle.fields.proofs.Turns.{dividing_start, dividing_turn, dividing_whole}
use native.Mathlib.Omega.{arith}
use Rattle.fields.proofs.width_of.Goals as goal

pub loop-rest-init : goal.loop-rest-init
loop-rest-init c = dividing_start c.args.x (omega arith)

pub loop-rest-preserved : goal.loop-rest-preserved
loop-rest-preserved c = dividing_turn c.loop-rest.invariant (omega arith)

pub returns : goal.returns
returns c = dividing_whole c.loop-rest.invariant (omega arith)
