-- `readback::read_weights` meets its contract: the loop fills the list.
use Rattle.seq.proofs.Filling.{start, turn, whole}
use native.Mathlib.Omega.{arith}
use Rattle.readback.proofs.read_weights.Goals as goal

pub loop-j-init : goal.loop-j-init
loop-j-init c = start _ _

pub loop-j-preserved : goal.loop-j-preserved
loop-j-preserved c = turn c.loop-j.invariant (omega arith) c.weight_bits.ensures

pub returns : goal.returns
returns c = whole c.loop-j.invariant (omega arith)
