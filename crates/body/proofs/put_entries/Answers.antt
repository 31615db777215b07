-- `body::put_entries` meets its contract. The loop's invariant: the first i entries are put.
use Rattle.body.proofs.Loops.{entering_start, entering_turn, entering_whole}
use native.Mathlib.Omega.{arith}
use Rattle.body.proofs.put_entries.Goals as goal

pub loop-entry-init : goal.loop-entry-init
loop-entry-init c =
    entering_start c.args.entries.now c.args.at c.args.out.now

pub put_entry-end-requires : goal.put_entry-end-requires
put_entry-end-requires c =
    omega (arith, c.loop-entry.invariant.near, c.loop-entry.invariant.same, c.loop-entry-test.true, c.requires)

pub loop-entry-preserved : goal.loop-entry-preserved
loop-entry-preserved c =
    entering_turn c.put_entry-end.result c.put_entry-end.new.out c.loop-entry.invariant
    (omega (arith, c.loop-entry-test.true)) c.requires c.put_entry-end.auto.out c.put_entry-end.ensures

pub shape_of-out : goal.shape_of-out
shape_of-out c = c.loop-entry.invariant.same

pub returns : goal.returns
returns c = entering_whole c.loop-entry.invariant (omega (arith, c.loop-entry-test.false))
