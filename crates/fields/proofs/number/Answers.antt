-- `fields::number` meets its contract: after k turns v is what k digits say, and fewer than sixteen leave room for one more.
use Rattle.fields.proofs.Turns.{number_room}
use Rattle.fields.proofs.Values.{value_most}
use Rattle.fields.specs.Digits.{number_at}
use mathlib.Core.Path.{refl}
use native.Mathlib.Omega.{arith}
use native.Mathlib.Numerals.{add-one}
use Rattle.fields.proofs.number.Goals as goal

pub loop-k-init : goal.loop-k-init
unfolding number_at
loop-k-init c = refl

pub overflow_mul-v : goal.overflow_mul-v
overflow_mul-v c =
    let l = c.loop-k in
    rw l.invariant (omega (arith, number_room c.args.base c.args.text.now c.args.at l.k c.requires.2 (omega arith)))

pub overflow_add-v : goal.overflow_add-v
overflow_add-v c =
    let l = c.loop-k in
    rw (l.invariant, c.digit_value.ensures)
    (omega (arith, value_most c.byte_at.result, number_room c.args.base c.args.text.now c.args.at l.k c.requires.2 (omega arith)))

pub loop-k-preserved : goal.loop-k-preserved
unfolding number_at
loop-k-preserved c = rw (add-one, c.loop-k.invariant, c.digit_value.ensures, c.byte_at.ensures)
