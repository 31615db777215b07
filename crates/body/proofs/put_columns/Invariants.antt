-- `body::put_columns` meets its contract. The loop's invariant: the lines of the first j columns are put.
use Rattle.body.proofs.Loops.{Columning}
use Rattle.body.proofs.put_columns.Given as goal

abbrev pub invariant-loop-j : goal.invariant-loop-j
invariant-loop-j l = Columning l.matrix l.n l.weights l.at l.initial.out l.j l.end l.out
