-- `walk::steps` meets its contract: what is left of the phase is the whole phase. The measure is how many coordinates are free.
use Rattle.chosen.specs.Entries.{entry_of}
use Rattle.blocking.specs.Held.{held}
use Rattle.walked.specs.Walk.{free_ones}
use Rattle.walked.proofs.Phases.{Going}
use lib.ListN.{length}
use Rattle.walk.proofs.steps.Given as goal

abbrev pub invariant-loop-at : goal.invariant-loop-at
invariant-loop-at l =
    Going (entry_of l.matrix l.bits l.n l.cols l.scale) (length l.cols) l.initial.numbers l.initial.blocked l.initial.x l.initial.free l.initial.g
    (held l.initial.numbers l.initial.blocked l.initial.x l.initial.free l.initial.at.count l.initial.at.frozen l.initial.at.rng) l.numbers l.blocked l.x l.free l.g l.at.count l.at.frozen
    l.at.rng l.directions

abbrev pub decreases-loop-at : goal.decreases-loop-at
decreases-loop-at l = free_ones l.free
