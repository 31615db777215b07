-- `gathering::feed` meets its contract. The loop's invariant: what is held is what the bytes so far give.
use Rattle.gathering.specs.Steps.{Took}
use mathlib.Core.Path.{◌≡◌}
use lib.ListN.{length, take}
use Rattle.gathering.proofs.feed.Given as goal

abbrev pub invariant-loop-b : goal.invariant-loop-b
invariant-loop-b l =
    (length l.room ≡ length l.initial.room) × (length l.marks ≡ length l.initial.marks)
    × (Took (take l.b-index l.piece) l.initial.now l.initial.room l.initial.marks l.now l.room l.marks)
