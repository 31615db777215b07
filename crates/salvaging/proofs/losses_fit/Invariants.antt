-- `salvaging::losses_fit` meets its contract. The loop's invariant: what is left of the room behind the lines of the first i.
use Rattle.keeping.specs.Steps.{kept_in}
use Rattle.keeping.proofs.Losses.{Leaving}
use Rattle.salvaging.proofs.losses_fit.Given as goal

abbrev pub invariant-loop-i : goal.invariant-loop-i
invariant-loop-i l = Leaving (kept_in l.s l.marks) l.a l.k l.room l.i l.left
