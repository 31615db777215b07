-- `votes::add_signed` meets its contract: whatever vector the bytes were filled into, the loop fills on.
use native.Mathlib.Omega.{arith}
use Rattle.votes.proofs.Bytes.{row_turn}
use Rattle.votes.proofs.add_signed.Goals as goal

pub loop-i-preserved : goal.loop-i-preserved
loop-i-preserved c = λ w h p. row_turn c.args.column.now c.args.t w _ _ (c.loop-i.invariant w h p) (omega arith) c.from.ensures c.bit.ensures
