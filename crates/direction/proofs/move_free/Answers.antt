-- `direction::move_free` meets its contract: after p turns the first p places are moved; a turn stores, or the place is right already.
use Rattle.ieee.proofs.Magnitudes.{minus_one_lem}
use Rattle.seq.proofs.Filling.{start, turn, still, whole}
use borrow.Author.Tests.{ne_eqb, eq-eqb}
use Rattle.direction.specs.Step.{moved}
use mathlib.Core.Path.{◌∙◌}
use native.Mathlib.Omega.{arith}
use lib.Ieee.{nan}
use Rattle.direction.proofs.move_free.Goals.{else-free-p-eq1, then-free-p-eq1}
use Rattle.direction.proofs.move_free.Goals as goal

pub loop-p-init : goal.loop-p-init
loop-p-init c = start _ _

pub loop-p-preserved : goal.loop-p-preserved
loop-p-preserved c =
    elim c.if-free-p-eq1.branch [
      | then-free-p-eq1 w ↦ rw w.x-is (turn c.loop-p.invariant (omega arith)
          (w.clamp.ensures ∙ rw (eq-eqb _ _ w.if-free-p-eq1.true, still c.loop-p.invariant (omega arith) nan, minus_one_lem)))
      | else-free-p-eq1 w ↦ rw w.x-is (turn c.loop-p.invariant (omega arith)
          (rw (ne_eqb _ _ w.if-free-p-eq1.false) (still c.loop-p.invariant (omega arith) nan)))
    ]

pub returns : goal.returns
unfolding moved
returns c = whole c.loop-p.invariant (omega arith)
