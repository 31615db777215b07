-- `drawing::zero_frozen` meets its contract: after p turns the first p places are zeroed where they are not free; a turn stores, or the place is right
-- already.
use Rattle.seq.proofs.Filling.{Filled}
use Rattle.direction.specs.Direction.{zeroed_at}
use Rattle.drawing.proofs.zero_frozen.Given as goal

abbrev pub invariant-loop-p : goal.invariant-loop-p
invariant-loop-p l = Filled (zeroed_at l.free l.initial.g) l.initial.g l.p l.g
