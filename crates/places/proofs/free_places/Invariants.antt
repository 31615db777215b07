-- `places::free_places` meets its contract: after j turns the places of the set marks below j stand at the front, which is what `keep` says.
use Prim.Native.Nat.{◌≤◌}
use Rattle.seq.specs.Keep.{keep}
use Rattle.seq.specs.Indices.{Pushed}
use Rattle.seq.specs.Marks.{is_set}
use Rattle.places.proofs.free_places.Given as goal

abbrev pub invariant-loop-j : goal.invariant-loop-j
invariant-loop-j l = (l.l ≤ l.j) × Pushed (keep (is_set l.free) l.j) l.l l.places
