-- `body::put_entries` meets its contract. The loop's invariant: the first entries are put.
use Rattle.body.proofs.Loops.{Entering}
use Rattle.body.proofs.put_entries.Given as goal

abbrev pub invariant-loop-entry : goal.invariant-loop-entry
invariant-loop-entry l = Entering l.entries l.at l.initial.out l.entry-index l.end l.out
