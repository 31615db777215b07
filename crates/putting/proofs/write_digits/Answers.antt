-- `putting::write_digits` meets its contract: the last digits stand from k on, and those of the rest go before them.
use native.Mathlib.Nat.{mod-lt}
use Rattle.fields.proofs.Turns.{writing_start, writing_turn, writing_whole}
use native.Mathlib.Omega.{arith}
use Rattle.putting.proofs.write_digits.Goals as goal

pub loop-k-init : goal.loop-k-init
loop-k-init c = writing_start _ _ _

pub digit_for-requires : goal.digit_for-requires
digit_for-requires c = omega (arith, mod-lt c.loop-k.rest {m = c.args.base} (omega arith))

pub loop-k-preserved : goal.loop-k-preserved
loop-k-preserved c = writing_turn c.loop-k.invariant (omega arith) c.digit_for.ensures

pub returns : goal.returns
returns c = writing_whole c.loop-k.invariant (omega arith)
