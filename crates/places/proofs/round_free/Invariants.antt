-- `places::round_free` meets its contract: a loop that fills; each arm of the choice gives what `rounded_at` says, and a frozen coordinate stays.
use Rattle.seq.proofs.Filling.{Filled}
use Rattle.places.specs.Places.{rounded_at}
use Rattle.places.proofs.round_free.Given as goal

abbrev pub invariant-loop-p : goal.invariant-loop-p
invariant-loop-p l = Filled (rounded_at l.initial.x l.free) l.initial.x l.p l.x
