-- `marking::place` meets its contract: after k turns the first k places hold their changes.
use lib.ListN.{get_or}
use Rattle.seq.specs.Sums.{at}
use Rattle.seq.proofs.Filling.{Filled}
use Rattle.marking.proofs.place.Given as goal

abbrev pub invariant-loop-k : goal.invariant-loop-k
invariant-loop-k l = Filled (λ j. at l.keys (get_or l.rows j 0)) l.initial.changes l.k l.changes
