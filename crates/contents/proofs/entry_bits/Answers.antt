-- `contents::entry_bits` meets its contract: n is not 0 where there is an entry, and every place is small enough.
use Rattle.form.proofs.Rooms.{entry_room}
use native.Mathlib.Omega.{arith}
use Rattle.contents.proofs.entry_bits.Goals as goal

pub nonzero_div-line : goal.nonzero_div-line
nonzero_div-line c = omega (arith, entry_room c.args.n c.args.k (omega arith) (omega arith))

pub overflow_mul-line-2 : goal.overflow_mul-line-2
overflow_mul-line-2 c = omega (arith, entry_room c.args.n c.args.k (omega arith) (omega arith))

pub overflow_add-line-2 : goal.overflow_add-line-2
overflow_add-line-2 c = omega (arith, entry_room c.args.n c.args.k (omega arith) (omega arith))

pub overflow_add-line-3 : goal.overflow_add-line-3
overflow_add-line-3 c = omega (arith, entry_room c.args.n c.args.k (omega arith) (omega arith))

pub overflow_add-line-4 : goal.overflow_add-line-4
overflow_add-line-4 c = omega (arith, entry_room c.args.n c.args.k (omega arith) (omega arith))

pub nonzero_rem-k : goal.nonzero_rem-k
nonzero_rem-k c = omega (arith, entry_room c.args.n c.args.k (omega arith) (omega arith))

pub overflow_mul-k : goal.overflow_mul-k
overflow_mul-k c = omega (arith, entry_room c.args.n c.args.k (omega arith) (omega arith))

pub overflow_add-line-5 : goal.overflow_add-line-5
overflow_add-line-5 c = omega (arith, entry_room c.args.n c.args.k (omega arith) (omega arith))

pub number-requires : goal.number-requires
number-requires c = omega (arith, entry_room c.args.n c.args.k (omega arith) (omega arith))
