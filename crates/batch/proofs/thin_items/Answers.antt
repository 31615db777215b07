-- `batch::thin_items` meets its contract: after i items the first i have their answers and their parts of the output, and the scratch is zero.
use Prim.Native.Nat.{◌-◌, ◌*◌}
use mathlib.Core.Path.{refl}
use native.Mathlib.Omega.{arith}
use Rattle.items.specs.Items.{listed}
use Rattle.items.specs.Lent.{lent_as}
use Rattle.items.proofs.Turns.{called_of, weights_inside, output_inside, near, upto_none, floats_long, words_long, output-kept}
use Rattle.items.proofs.Turns.{parts_sized, span, upto-more, upto_all}
use Rattle.batch.proofs.thin_items.Goals as goal

pub loop-i-init : goal.loop-i-init
loop-i-init c =
    let a = c.args in
    let p = c.requires in (
      called_of (lent_as a.matrix.now a.bits.now a.m a.n) a.m a.n a.items
          (listed a.weights.now a.seeds.now a.editions.now a.rules.now a.allowances.now a.limits.now)
          a.output.now a.numbers.now a.indices.now p.1,
      upto_none c.no_answers-answers.ensures.0 c.no_answers-answers.ensures.1 p.2.floats p.2.words,
    )

pub overflow_mul-a : goal.overflow_mul-a
overflow_mul-a c = omega (arith, near c.loop-i.invariant.0 c.loop-i.i c.loop-i-test.true)

pub overflow_add-e : goal.overflow_add-e
overflow_add-e c = omega (arith, near c.loop-i.invariant.0 c.loop-i.i c.loop-i-test.true)

pub offset_bounds-weights-a : goal.offset_bounds-weights-a
offset_bounds-weights-a c = omega (arith, near c.loop-i.invariant.0 c.loop-i.i c.loop-i-test.true)

pub slice_bounds-thin_item-end : goal.slice_bounds-thin_item-end
slice_bounds-thin_item-end c = omega (arith, weights_inside c.loop-i.invariant.0 c.loop-i.i c.loop-i-test.true)

pub bounds-seeds-i : goal.bounds-seeds-i
bounds-seeds-i c =
    omega (arith, c.loop-i.invariant.0.sized.seeded, c.loop-i-test.true)

pub bounds-editions-i : goal.bounds-editions-i
bounds-editions-i c =
    omega (arith, c.loop-i.invariant.0.sized.edited, c.loop-i-test.true)

pub bounds-rules-i : goal.bounds-rules-i
bounds-rules-i c =
    omega (arith, c.loop-i.invariant.0.sized.ruled, c.loop-i-test.true)

pub bounds-allowances-i : goal.bounds-allowances-i
bounds-allowances-i c =
    omega (arith, c.loop-i.invariant.0.sized.allowed, c.loop-i-test.true)

pub bounds-limits-i : goal.bounds-limits-i
bounds-limits-i c =
    omega (arith, c.loop-i.invariant.0.sized.limited, c.loop-i-test.true)

pub offset_bounds-output-a : goal.offset_bounds-output-a
offset_bounds-output-a c =
    omega (arith, near c.loop-i.invariant.0 c.loop-i.i c.loop-i-test.true)

pub slice_bounds-thin_item-end-in-loop-i : goal.slice_bounds-thin_item-end-in-loop-i
slice_bounds-thin_item-end-in-loop-i c =
    let inv = c.loop-i.invariant in
    omega (arith, output_inside inv.0 c.loop-i.i c.loop-i-test.true, output-kept inv.0 inv.1)

pub thin_item-requires : goal.thin_item-requires
thin_item-requires c =
    let inv = c.loop-i.invariant in
    let m = c.args.m in
    (c.requires.0, parts_sized inv.0 inv.1 c.loop-i-test.true _ (span (c.loop-i.i * m) m), inv.0.entries)

pub offset_bounds-answers-i : goal.offset_bounds-answers-i
offset_bounds-answers-i c =
    omega (arith, c.loop-i.invariant.0.sized.few, c.loop-i-test.true)

pub bounds-answers-i : goal.bounds-answers-i
bounds-answers-i c =
    omega (arith, c.loop-i.invariant.0.sized.few, c.loop-i-test.true)

pub loop-i-preserved : goal.loop-i-preserved
loop-i-preserved c =
    let inv = c.loop-i.invariant in
    let a = c.args in (
      inv.0,
      upto-more inv.0 inv.1 c.loop-i-test.true (span (c.loop-i.i * a.m) a.m) c.new.ensures
          c.named_rule.ensures c.thin_item.ensures refl refl,
    )

pub shape_of-output : goal.shape_of-output
shape_of-output c = output-kept c.loop-i.invariant.0 c.loop-i.invariant.1

pub shape_of-numbers : goal.shape_of-numbers
shape_of-numbers c = floats_long c.loop-i.invariant.0 c.loop-i.invariant.1

pub shape_of-indices : goal.shape_of-indices
shape_of-indices c = words_long c.loop-i.invariant.0 c.loop-i.invariant.1

pub returns : goal.returns
returns c = upto_all c.loop-i.invariant.0 c.loop-i.invariant.1 c.loop-i-test.false
