-- `direction::turn_if` meets its contract: after i turns the first i places are turned.
use Rattle.seq.proofs.Filling.{Filled}
use Rattle.direction.specs.Direction.{turned_at}
use mathlib.Core.Bool.{true}
use Rattle.direction.proofs.turn_if.Given as goal

abbrev pub invariant-loop-x : goal.invariant-loop-x
invariant-loop-x l = Filled (turned_at true l.initial.v) l.initial.v l.x-index l.v
