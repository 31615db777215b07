-- `answering::put_weights` meets its contract. The loop's invariant: the lines of the first j weights are put.
use Rattle.answering.proofs.Lines.{lining_start, lining_turn, lining_whole}
use Prim.Native.Nat.{◌-◌}
use native.Mathlib.Omega.{arith}
use Rattle.answering.proofs.put_weights.Goals as goal

pub loop-j-init : goal.loop-j-init
loop-j-init c = lining_start c.args.w.now c.args.at c.args.out.now

pub put_weight-end-requires : goal.put_weight-end-requires
put_weight-end-requires c = omega (
  arith,
  c.loop-j.invariant.near,
  c.loop-j.invariant.same,
  c.loop-j-test.true,
  c.requires,
)

pub loop-j-preserved : goal.loop-j-preserved
loop-j-preserved c =
    lining_turn c.put_weight-end.result c.put_weight-end.new.out c.loop-j.invariant
    (omega (arith, c.loop-j-test.true)) c.requires c.put_weight-end.auto.out
    c.put_weight-end.ensures

pub shape_of-out : goal.shape_of-out
shape_of-out c = c.loop-j.invariant.same

pub returns : goal.returns
returns c = lining_whole c.loop-j.invariant (omega arith)
