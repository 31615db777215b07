-- `entries::row_into` meets its contract: the loop fills the row, an entry a column.
use native.Mathlib.Omega.{arith}
use Rattle.seq.proofs.Filling.{start, turn}
use Rattle.entries.proofs.row_into.Goals as goal

pub loop-p-init : goal.loop-p-init
loop-p-init c = start _ _

pub loop-p-preserved : goal.loop-p-preserved
loop-p-preserved c = turn c.loop-p.invariant (omega arith) c.entry.ensures
