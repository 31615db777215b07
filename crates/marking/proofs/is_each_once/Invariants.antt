-- `marking::is_each_once` meets its contract: a mark is how often its row was met.
use Rattle.marking.proofs.Marking.{Marked}
use Rattle.marking.proofs.is_each_once.Given as goal

abbrev pub invariant-loop-row : goal.invariant-loop-row
invariant-loop-row l = Marked l.rows l.row-index l.marks
