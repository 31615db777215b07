-- `salvaging::put_losses` meets its contract. The loop's invariant: the lines of the lost ones of the first i are put.
use Rattle.keeping.proofs.Losses.{losing_start, losing_room, losing_turn, losing_whole}
use native.Mathlib.Omega.{arith}
use Rattle.salvaging.proofs.put_losses.Goals as goal

pub loop-i-init : goal.loop-i-init
loop-i-init c = losing_start _ _ _ _ _

pub put_lost-end-requires : goal.put_lost-end-requires
put_lost-end-requires c =
    losing_room c.is_kept-kept.result c.loop-i.invariant (omega (arith, c.loop-i-test.true))
    c.is_kept-kept.ensures c.requires.room

pub loop-i-preserved : goal.loop-i-preserved
loop-i-preserved c =
    losing_turn c.is_kept-kept.result c.put_lost-end.result c.put_lost-end.new.out c.loop-i.invariant
    (omega (arith, c.loop-i-test.true)) c.is_kept-kept.ensures c.requires.room
    c.put_lost-end.auto.out c.put_lost-end.ensures

pub shape_of-out : goal.shape_of-out
shape_of-out c = c.loop-i.invariant.same

pub returns : goal.returns
returns c = losing_whole c.loop-i.invariant (omega arith)
