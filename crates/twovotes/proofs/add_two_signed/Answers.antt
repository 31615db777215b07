-- `twovotes::add_two_signed` meets its contract: whatever vector the bytes were filled into, the loop fills on.
use native.Mathlib.Omega.{arith}
use Rattle.votes.proofs.Bytes.{rows-turn}
use Rattle.twovotes.proofs.add_two_signed.Goals as goal

pub loop-i-preserved : goal.loop-i-preserved
loop-i-preserved c =
    let a = c.args in
    λ w h p. rows-turn a.first.now a.t a.second.now a.u w _ _ _ _ (c.loop-i.invariant w h p) (omega arith) c.from.ensures c.bit.ensures
    c.from-in-loop-i.ensures c.bit-in-loop-i.ensures
