-- `draw::uniform_of` meets its contract: the upper bits are a double, and the operations are those of the edition.
use Rattle.std.proofs.Common.{ℕ, ◌/◌, ◌^◌, ◌<◌, ◌≤◌, T, leb, mul-le-mul_right, arith, lit≤, le→leb, ne_eqb}
use native.Mathlib.Nat.{div-le_of_le-mul}
use lib.Ieee.{of_bits, in_float}
use Rattle.draw.specs.Uniform.{uniform_at, uniform_of}
use Rattle.draw.proofs.uniform_of.Goals as goal

-- 53 bits of an output, or fewer, are a double
upper_bits : (word d : ℕ) → 2 ^ 11 ≤ d → word < 2 ^ 64 → T (leb (word / d) (2 ^ 53))
upper_bits word d h l = le→leb (word / d) (2 ^ 53) (div-le_of_le-mul d (let m = mul-le-mul_right (2 ^ 53) h in omega arith))

pub int_to_float-result : goal.int_to_float-result
unfolding in_float
int_to_float-result c = upper_bits c.args.word _ (lit≤ tt) (omega arith)

pub int_to_float-result-else-edition-eq2 : goal.int_to_float-result-else-edition-eq2
unfolding in_float
int_to_float-result-else-edition-eq2 c = upper_bits c.args.word _ (lit≤ tt) (omega arith)

pub returns-then-edition-eq2 : goal.returns-then-edition-eq2
unfolding uniform_of uniform_at of_bits
returns-then-edition-eq2 c = rw c.if-edition-eq2.true

pub returns-else-edition-eq2 : goal.returns-else-edition-eq2
unfolding uniform_of uniform_at of_bits
returns-else-edition-eq2 c = rw (ne_eqb _ 2 c.if-edition-eq2.false)
