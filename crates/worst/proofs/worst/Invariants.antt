-- `worst::worst` meets its contract: w is the worst of the rows below i, and top its magnitude, so that a row of no larger one is passed over.
use Prim.Native.Nat.{◌-◌}
use lib.ListN.{length}
use Rattle.order.proofs.Ranking.{Worst}
use Rattle.worst.proofs.worst.Given as goal

abbrev pub invariant-loop-i : goal.invariant-loop-i
invariant-loop-i l = Worst l.ax l.blocked l.i l.w l.top

abbrev pub decreases-loop-i : goal.decreases-loop-i
decreases-loop-i l = length l.ax - l.i
