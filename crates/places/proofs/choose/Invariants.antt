-- `places::choose` meets its contract: a loop that fills, with the elements at the places.
use lib.ListN.{get_or}
use Rattle.seq.proofs.Filling.{Filled}
use Rattle.places.proofs.choose.Given as goal

abbrev pub invariant-loop-p : goal.invariant-loop-p
invariant-loop-p g l = (d : _) → Filled (λ i. get_or l.v (get_or l.places i 0) d) l.initial.to l.p l.to
