-- `linear::next_larger` meets its contract: no magnitude that the loop has left behind is above `most`.
use mathlib.Core.Path.{◌≡◌}
use native.Mathlib.Omega.{arith}
use lib.ListN.{length}
use Rattle.linear.proofs.Larger.{none_larger, one_not_larger}
use Rattle.linear.proofs.next_larger.Goals as goal

pub loop-i-init : goal.loop-i-init
loop-i-init c = none_larger _ _ _

pub returns-then-most-abs : goal.returns-then-most-abs
returns-then-most-abs c = c.loop-i.invariant

pub loop-i-preserved : goal.loop-i-preserved
loop-i-preserved c = one_not_larger c.loop-i.invariant (omega arith)
    (rw (← c.abs.ensures) c.if-most-abs.false)

pub returns : goal.returns
returns c =
    let done : c.loop-i.i ≡ length c.args.a.now = omega arith in
    rw (← done) c.loop-i.invariant
