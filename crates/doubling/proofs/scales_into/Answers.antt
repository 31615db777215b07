-- `doubling::scales_into` meets its contract: the loop fills from the front with weights over ω.
use mathlib.Core.Path.{refl, ◌∙◌}
use native.Mathlib.Omega.{arith}
use Rattle.seq.proofs.Filling.{start, turn, whole}
use Rattle.doubling.proofs.scales_into.Goals as goal

pub loop-p-init : goal.loop-p-init
loop-p-init c = start _ _

pub loop-p-preserved : goal.loop-p-preserved
loop-p-preserved c = turn c.loop-p.invariant (omega arith) refl

pub returns : goal.returns
returns c = whole c.loop-p.invariant (omega arith) ∙ rw c.requires.0
