-- `answering::put_weights` meets its contract. The loop's invariant: the lines of the first j weights are put.
use Rattle.answering.proofs.Lines.{Lining}
use Rattle.answering.proofs.put_weights.Given as goal

abbrev pub invariant-loop-j : goal.invariant-loop-j
invariant-loop-j l = Lining l.w l.at l.initial.out l.j l.end l.out
