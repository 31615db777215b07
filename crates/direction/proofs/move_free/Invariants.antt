-- `direction::move_free` meets its contract: after p turns the first p places are moved; a turn stores, or the place is right already.
use Rattle.seq.proofs.Filling.{Filled}
use Rattle.direction.specs.Step.{moved_at}
use Rattle.direction.proofs.move_free.Given as goal

abbrev pub invariant-loop-p : goal.invariant-loop-p
invariant-loop-p l = Filled (moved_at l.t l.initial.x l.g l.free) l.initial.x l.p l.x
