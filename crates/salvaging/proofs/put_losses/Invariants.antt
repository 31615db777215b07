-- `salvaging::put_losses` meets its contract. The loop's invariant: the lines of the lost ones of the first i are put.
use Rattle.keeping.specs.Steps.{kept_in}
use Rattle.keeping.proofs.Losses.{Losing}
use Rattle.salvaging.proofs.put_losses.Given as goal

abbrev pub invariant-loop-i : goal.invariant-loop-i
invariant-loop-i l = Losing (kept_in l.s l.marks) l.a l.k l.at l.initial.out l.i l.end l.out
