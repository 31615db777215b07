-- `rows::add_scaled` meets its contract: after i turns the first i rows have the term of the column more.
use Rattle.seq.proofs.Filling.{start, turn, still}
use native.Mathlib.Omega.{arith}
use lib.Ieee.{nan}
use Rattle.rows.proofs.add_scaled.Goals as goal

pub loop-i-init : goal.loop-i-init
loop-i-init c = start _ _

pub loop-i-preserved : goal.loop-i-preserved
loop-i-preserved c = turn c.loop-i.invariant (omega arith) (rw (still c.loop-i.invariant (omega arith) nan))
