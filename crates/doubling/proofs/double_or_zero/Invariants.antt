-- `doubling::double_or_zero` meets its contract: after some turns the weights are halved at the first of the indices.
use mathlib.Core.Path.{◌≡◌}
use lib.ListN.{length}
use Rattle.doubling.specs.Doubling.{halved_to}
use Rattle.doubling.proofs.double_or_zero.Given as goal

abbrev pub invariant-loop-j : goal.invariant-loop-j
invariant-loop-j l = l.w ≡ halved_to l.initial.w l.rest l.x l.sigma (length l.yielded)
