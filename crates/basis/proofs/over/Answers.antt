-- `basis::over` meets its contract: the loop fills the part that is lent.
use Rattle.seq.proofs.Filling.{start, turn, whole}
use mathlib.Core.Path.{refl}
use native.Mathlib.Omega.{arith}
use Rattle.basis.proofs.over.Goals as goal

pub loop-i-init : goal.loop-i-init
loop-i-init c = start _ _

pub loop-i-preserved : goal.loop-i-preserved
loop-i-preserved c = turn c.loop-i.invariant (omega arith) refl

pub returns : goal.returns
returns c = rw (← c.requires) (whole c.loop-i.invariant (omega arith))
