-- `worst::pass_over` meets its contract: what the loop has left behind is passed over.
use Prim.Native.Nat.{◌-◌}
use lib.ListN.{length}
use Rattle.seq.specs.Passing.{PassedTo}
use Rattle.worst.specs.Passed.{passed}
use Rattle.worst.proofs.pass_over.Given as goal

abbrev pub invariant-loop-i : goal.invariant-loop-i
invariant-loop-i l = PassedTo (passed l.ax l.blocked l.top) (length l.ax) l.from l.i

abbrev pub decreases-loop-i : goal.decreases-loop-i
decreases-loop-i l = length l.ax - l.i
