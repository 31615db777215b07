-- `coloring::walk_to_end` meets its contract: what is left of the walk stays the same from phase to phase, and each phase leaves fewer coordinates free.
use Rattle.seq.specs.Sums.{plus_zero}
use Rattle.chosen.specs.Entries.{entry_of}
use Rattle.walked.specs.Walk.{free_ones}
use Rattle.blocking.specs.Held.{Roomy}
use Rattle.colored.specs.Coloring.{walked}
use Rattle.phased.specs.Phasing.{between}
use Rattle.colored.proofs.Walks.{Rooms, onward}
use Prim.Native.Nat.{◌+◌, ◌*◌, ◌≤◌}
use mathlib.Core.Path.{◌≡◌}
use lib.ListN.{length}
use Rattle.coloring.proofs.walk_to_end.Given as goal

abbrev pub invariant-loop-places : goal.invariant-loop-places
invariant-loop-places l =
    Roomy (length l.cols) l.numbers l.blocked l.x l.free 0 × (length l.numbers ≡ length l.initial.numbers) × (length l.blocked ≡ length l.initial.blocked)
    × Rooms l.places l.subcols l.subscale l.subx l.subfree l.g
    × (walked plus_zero (entry_of l.matrix l.bits l.n l.cols l.scale) (length l.cols) (length l.initial.blocked) l.initial.rng
    ≡ onward plus_zero (entry_of l.matrix l.bits l.n l.cols l.scale) (length l.cols) (length l.initial.blocked) (between (length l.initial.blocked) l.numbers l.x l.free l.rng l.directions))
    × (l.directions + 2 * free_ones l.free ≤ 2 * length l.cols)

abbrev pub decreases-loop-places : goal.decreases-loop-places
decreases-loop-places l = free_ones l.free
