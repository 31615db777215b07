-- `direction::reach` meets its contract: after p turns the step is the smallest reach below p; each way through a turn is a law.
use Rattle.direction.specs.Step.{reach_to}
use mathlib.Core.Path.{◌≡◌}
use Rattle.direction.proofs.reach.Given as goal

abbrev pub invariant-loop-p : goal.invariant-loop-p
invariant-loop-p l = l.step ≡ reach_to l.x l.g l.free l.p
