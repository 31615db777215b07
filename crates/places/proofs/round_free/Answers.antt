-- `places::round_free` meets its contract: a loop that fills; each arm of the choice gives what `rounded_at` says, and a frozen coordinate stays.
use Rattle.places.proofs.Rounding.{round_up, round-down}
use borrow.Author.Tests.{ne_eqb}
use Rattle.seq.proofs.Filling.{start, turn, still, whole}
use native.Mathlib.Omega.{arith}
use lib.Ieee.{nan}
use Rattle.places.proofs.round_free.Goals as goal
use Rattle.places.proofs.round_free.Goals.{then-free-p-eq1, then-c, else-c, else-free-p-eq1}

pub loop-p-init : goal.loop-p-init
loop-p-init c = start _ _

pub loop-p-preserved : goal.loop-p-preserved
loop-p-preserved c =
    let v = c.loop-p.invariant in
    let free = c.args.free.now in
    elim c.if-free-p-eq1.branch [
      | then-free-p-eq1 w ↦
          rw w.x-is
          elim w.if-c.branch [
            | then-c u ↦ rw u.c-is (round_up free v (omega arith) w.if-free-p-eq1.true u.if-c.true)
            | else-c u ↦ rw u.c-is (round-down free v (omega arith) w.if-free-p-eq1.true u.if-c.false)
          ]
      | else-free-p-eq1 w ↦
          rw w.x-is (turn v (omega arith) (rw (ne_eqb _ _ w.if-free-p-eq1.false) (still v (omega arith) nan)))
    ]

pub returns : goal.returns
returns c = whole c.loop-p.invariant (omega arith)
