-- `salvaging::losses_fit` meets its contract. The loop's invariant: what is left of the room behind the lines of the first i.
use Rattle.keeping.proofs.Losses.{leaving_start, leaving_turn, leaving_short, leaving_whole}
use native.Mathlib.Omega.{arith}
use Rattle.salvaging.proofs.losses_fit.Goals as goal

pub loop-i-init : goal.loop-i-init
loop-i-init c = leaving_start _ _ _ _

pub returns-then-left-wide : goal.returns-then-left-wide
returns-then-left-wide c =
    leaving_short c.is_kept.result c.lost_long-wide.result c.loop-i.invariant (omega (arith, c.loop-i-test.true))
    c.is_kept.ensures c.lost_long-wide.ensures (omega (arith, c.if-left-wide.true))

pub loop-i-preserved : goal.loop-i-preserved
loop-i-preserved c =
    leaving_turn c.is_kept.result c.lost_long-wide.result c.loop-i.invariant (omega (arith, c.loop-i-test.true))
    c.is_kept.ensures c.lost_long-wide.ensures (omega (arith, c.if-left-wide.false))

pub returns : goal.returns
returns c = leaving_whole c.loop-i.invariant (omega arith)
