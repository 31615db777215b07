-- `contents::weight_bits` meets its contract: every place is small enough.
use Rattle.form.proofs.Rooms.{column_room}
use native.Mathlib.Omega.{arith}
use Rattle.contents.proofs.weight_bits.Goals as goal

pub overflow_mul-j : goal.overflow_mul-j
overflow_mul-j c = omega (arith, column_room c.args.j c.args.n (omega arith) (omega arith))

pub overflow_add-start : goal.overflow_add-start
overflow_add-start c = omega (arith, column_room c.args.j c.args.n (omega arith) (omega arith))

pub overflow_add-start-2 : goal.overflow_add-start-2
overflow_add-start-2 c = omega (arith, column_room c.args.j c.args.n (omega arith) (omega arith))

pub number-requires : goal.number-requires
number-requires c = omega (arith, column_room c.args.j c.args.n (omega arith) (omega arith))
