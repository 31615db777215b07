-- `limits::scratch_short` meets its contract: its sums fit for so small a matrix, and where the first test fails, the second is the answer.
use borrow.Author.Tests.{lt-ltb, le-ltb}
use Rattle.limits.specs.Limits.{numbers_needed}
use native.Mathlib.Nat.{mul-le-mul}
use native.Mathlib.Omega.{arith}
use Rattle.limits.proofs.scratch_short.Goals as goal

pub overflow_mul-m : goal.overflow_mul-m
overflow_mul-m c = omega (arith, mul-le-mul c.requires.0 c.requires.1)

pub overflow_mul-m-2 : goal.overflow_mul-m-2
overflow_mul-m-2 c = omega (arith, mul-le-mul c.requires.0 c.requires.0)

pub overflow_add-m : goal.overflow_add-m
overflow_add-m c = omega (arith, mul-le-mul c.requires.0 c.requires.1, mul-le-mul c.requires.0 c.requires.0)

pub overflow_add-m-2 : goal.overflow_add-m-2
overflow_add-m-2 c = omega (arith, mul-le-mul c.requires.0 c.requires.1, mul-le-mul c.requires.0 c.requires.0)

pub overflow_add-m-3 : goal.overflow_add-m-3
overflow_add-m-3 c = omega (arith, mul-le-mul c.requires.0 c.requires.1, mul-le-mul c.requires.0 c.requires.0)

pub returns-then-numbers-m : goal.returns-then-numbers-m
returns-then-numbers-m c = rw (lt-ltb c.args.numbers (numbers_needed c.args.m c.args.n) c.if-numbers-m.true)

pub returns-else-numbers-m : goal.returns-else-numbers-m
returns-else-numbers-m c = rw (le-ltb c.args.numbers (numbers_needed c.args.m c.args.n) c.if-numbers-m.false)
