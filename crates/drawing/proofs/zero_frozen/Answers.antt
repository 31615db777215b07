-- `drawing::zero_frozen` meets its contract: after p turns the first p places are zeroed where they are not free; a turn stores, or the place is right
-- already.
use borrow.Author.Tests.{ne_eqb, eq-eqb}
use Rattle.seq.proofs.Filling.{start, turn, still, whole}
use Rattle.direction.specs.Direction.{zeroed}
use native.Mathlib.Omega.{arith}
use lib.Ieee.{nan}
use Rattle.drawing.proofs.zero_frozen.Goals.{else-free-p-ne1, then-free-p-ne1}
use Rattle.drawing.proofs.zero_frozen.Goals as goal

pub loop-p-init : goal.loop-p-init
loop-p-init c = start _ _

pub loop-p-preserved : goal.loop-p-preserved
loop-p-preserved c =
    elim c.if-free-p-ne1.branch [
      | then-free-p-ne1 w ↦ rw w.g-is (turn c.loop-p.invariant (omega arith) (rw (ne_eqb _ _ w.if-free-p-ne1.true)))
      | else-free-p-ne1 w ↦ rw w.g-is (turn c.loop-p.invariant (omega arith)
          (rw (eq-eqb _ _ w.if-free-p-ne1.false) (still c.loop-p.invariant (omega arith) nan)))
    ]

pub returns : goal.returns
unfolding zeroed
returns c = whole c.loop-p.invariant (omega arith)
