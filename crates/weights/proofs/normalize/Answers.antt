-- `weights::normalize` meets its contract: the loop fills from the front with what stood there over the sum of magnitudes.
use native.Mathlib.Omega.{arith}
use lib.Ieee.{nan}
use Rattle.seq.proofs.Filling.{start, turn, still, whole}
use Rattle.weights.specs.Weights.{normalized}
use Rattle.weights.proofs.normalize.Goals as goal

pub loop-x-init : goal.loop-x-init
loop-x-init c = start _ _

pub loop-x-preserved : goal.loop-x-preserved
loop-x-preserved c = turn c.loop-x.invariant (omega arith) (rw (still c.loop-x.invariant (omega arith) nan))

pub returns : goal.returns
unfolding normalized
returns c = rw (← c.l1-sum.ensures) (whole c.loop-x.invariant (omega arith))
