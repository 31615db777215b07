-- `linear::next_larger` meets its contract: no magnitude that the loop has left behind is above `most`.
use Rattle.linear.specs.Larger.{NoLarger}
use Rattle.linear.proofs.next_larger.Given as goal

abbrev pub invariant-loop-i : goal.invariant-loop-i
invariant-loop-i l = NoLarger l.a l.most l.from l.i
