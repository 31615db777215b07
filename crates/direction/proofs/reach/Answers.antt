-- `direction::reach` meets its contract: after p turns the step is the smallest reach below p; each way through a turn is a law.
use Rattle.direction.proofs.Turning.{reach_moves, reach_still, reach_frozen}
use lib.Ieee.{div, of_bits}
use Rattle.direction.specs.Step.{reach_to}
use mathlib.Core.Path.{◌≡◌, refl, ◌∙◌}
use native.Mathlib.Omega.{arith}
use lib.ListN.{length}
use Rattle.direction.proofs.reach.Goals.{then-f-eq1+then-g-p, else-f-eq1, else-f-eq1-via-then-f-eq1+else-g-p, else-f-eq1-via-else-f-eq1}
use Rattle.direction.proofs.reach.Goals as goal

pub loop-p-init : goal.loop-p-init
unfolding reach_to div of_bits
loop-p-init c = refl

pub loop-p-preserved : goal.loop-p-preserved
loop-p-preserved c =
    let a = c.args in
    let l = c.loop-p in
    elim c.if-f-eq1.branch [
      | then-f-eq1+then-g-p w ↦ w.step-is ∙ reach_moves a.x.now a.g.now a.free.now l.p l.step l.invariant _ _
          w.if-f-eq1.true w.if-g-p.true w.signum.ensures w.smaller-step.ensures
      | else-f-eq1 w ↦ w.step-is ∙ elim w.else-f-eq1.branch [
        | else-f-eq1-via-then-f-eq1+else-g-p w' ↦ reach_still a.x.now a.g.now a.free.now l.p l.step l.invariant w'.if-f-eq1.true w'.if-g-p.false
        | else-f-eq1-via-else-f-eq1 w' ↦ reach_frozen a.x.now a.g.now a.free.now l.p l.step l.invariant w'.if-f-eq1.false
      ]
    ]

pub returns : goal.returns
returns c =
    let done : c.loop-p.p ≡ length c.args.x.now = omega arith in
    rw (← done) c.loop-p.invariant
