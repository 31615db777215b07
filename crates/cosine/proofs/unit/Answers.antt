-- `cosine::unit` meets its contract: the number kept is a double, and the difference in doubles is the definition's.
use Prim.Native.Nat.{◌^◌}
use mathlib.Core.Path.{◌≡◌, refl}
use mathlib.Core.Bool.{false}
use native.Mathlib.Omega.{arith}
use lib.Dec.{le→leb}
use lib.IntN.{pos}
use lib.Ieee.{fin, binary64, of_bits, in_float}
use Rattle.cosine.proofs.Differences.{difference}
use Rattle.cosine.proofs.unit.Goals as goal

two_51 : of_bits binary64 4836865999795912704 ≡ fin false 1 (pos 51)
unfolding of_bits
two_51 = refl

pub int_to_float-result : goal.int_to_float-result
unfolding in_float
int_to_float-result c = le→leb _ (2 ^ 53) (omega arith)

pub returns : goal.returns
returns c = rw two_51 (difference c.args.plus c.args.minus _ (omega arith))
