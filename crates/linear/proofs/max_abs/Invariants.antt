-- `linear::max_abs` meets its contract: before each turn it is the largest magnitude of the first i, those that were passed over included.
use Rattle.seq.specs.Sums.{at}
use Rattle.ieee.specs.Magnitude.{max_abs_to}
use Prim.Native.Nat.{◌-◌, ◌≤◌}
use mathlib.Core.Path.{◌≡◌}
use lib.ListN.{length}
use Rattle.linear.proofs.max_abs.Given as goal

abbrev pub invariant-loop-i : goal.invariant-loop-i
invariant-loop-i l = (l.i ≤ length l.a) × (l.most ≡ max_abs_to (at l.a) l.i)

abbrev pub decreases-loop-i : goal.decreases-loop-i
decreases-loop-i l = length l.a - l.i
