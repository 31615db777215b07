-- `contents::read_matrix` meets its contract: the loop fills the matrix.
use Rattle.seq.proofs.Filling.{start, turn, whole}
use native.Mathlib.Omega.{arith}
use Rattle.contents.proofs.read_matrix.Goals as goal

pub loop-k-init : goal.loop-k-init
loop-k-init c = start _ _

pub loop-k-preserved : goal.loop-k-preserved
loop-k-preserved c = turn c.loop-k.invariant (omega arith) (rw (c.double.ensures, c.entry_bits.ensures))

pub returns : goal.returns
returns c = whole c.loop-k.invariant (omega arith)
