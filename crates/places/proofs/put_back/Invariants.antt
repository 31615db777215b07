-- `places::put_back` meets its contract: after some turns the first values are back at their places.
use mathlib.Core.Path.{◌≡◌}
use lib.ListN.{length}
use Rattle.places.specs.Places.{put_back}
use Rattle.places.proofs.put_back.Given as goal

abbrev pub invariant-loop-j : goal.invariant-loop-j
invariant-loop-j g l =
    (goal.iterator-loop-j g).can_next l.j-iterator × (goal.iterator-loop-j g).is_finite l.j-iterator
    × ((d : _) → l.v ≡ put_back d l.places l.values l.initial.v (length l.yielded))
