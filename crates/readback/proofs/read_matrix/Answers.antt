-- `readback::read_matrix` meets its contract: the loop fills the list.
use Rattle.seq.proofs.Filling.{start, turn, whole}
use native.Mathlib.Omega.{arith}
use Rattle.readback.proofs.read_matrix.Goals as goal

pub loop-k-init : goal.loop-k-init
loop-k-init c = start _ _

pub loop-k-preserved : goal.loop-k-preserved
loop-k-preserved c = turn c.loop-k.invariant (omega arith) c.entry_bits.ensures

pub returns : goal.returns
returns c = whole c.loop-k.invariant (omega arith)
