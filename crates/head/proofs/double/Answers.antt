-- `head::double` meets its contract: a pattern that is not above the infinity's is no NaN's, and every other is read as the NaN, which 0 / 0 is.
use Rattle.head.proofs.Doubles.{no_nan_pattern, nan_pattern}
use native.Mathlib.Omega.{arith}
use Rattle.head.proofs.double.Goals as goal

pub float_from_bits-result : goal.float_from_bits-result
float_from_bits-result c = no_nan_pattern c.args.bits (omega arith)

pub returns-else-bits-le9218868437227405312 : goal.returns-else-bits-le9218868437227405312
returns-else-bits-le9218868437227405312 c = nan_pattern c.args.bits (omega arith)
