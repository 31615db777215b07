-- `logarithm::near_ratio` is safe: the number is a double, and what is above zero is no NaN.
use mathlib.Core.Bool.{true, false, not, false≢true}
use lib.Dec.{T, le→leb}
use lib.IntN.{pos}
use lib.Ieee.{Float, nan, inf, fin, binary64, of_bits, lt, is_nan, in_float}
use Prim.Native.Nat.{◌^◌}
use mathlib.Core.Path.{◌≡◌, refl}
use native.Mathlib.Omega.{arith}
use Rattle.logarithm.proofs.near_ratio.Goals as goal

zero_is : of_bits binary64 0 ≡ fin false 0 (pos 0)
unfolding of_bits
zero_is = refl

-- what is above zero is no NaN
no_nan : (x : Float) → lt (fin false 0 (pos 0)) x ≡ true → T (not (is_nan x))
unfolding lt is_nan
no_nan nan h = absurd (false≢true h)
no_nan (inf s) h = tt
no_nan (fin s m e) h = tt

pub int_to_float-x : goal.int_to_float-x
unfolding in_float
int_to_float-x c = le→leb c.args.f (2 ^ 53) (omega arith)

pub float_to_bits-result : goal.float_to_bits-result
float_to_bits-result c = no_nan _ (rw zero_is at c.if-sum.true)
