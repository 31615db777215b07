-- `twovotes::add_two_pairs` meets its contract: each turn fills the eight rows of a byte, from the tables of pairs.
use Prim.Native.Nat.{◌<◌}
use native.Mathlib.Omega.{arith}
use Rattle.seq.proofs.Filling.{start}
use Rattle.votes.proofs.Rows.{low_signs, high_signs}
use Rattle.votes.proofs.Bytes.{bytes_turn}
use Rattle.twovotes.proofs.add_two_pairs.Goals as goal

pub loop-i-init : goal.loop-i-init
loop-i-init c = start _ _

pub loop-i-preserved : goal.loop-i-preserved
loop-i-preserved c =
    let a = c.args in
    let i = c.loop-i.i in
    let b : c.from-b.result < 256 = omega (arith, c.type_inv.first i) in
    let d : c.from-c.result < 256 = omega (arith, c.type_inv.second i) in
    let pairs = c.signed_pairs-pairs.ensures in
    let others = c.signed_pairs-others.ensures in
    bytes_turn a.first.now a.t a.second.now a.u a.acc.now _ _ _ _ _ i _ _ _ _ _ _ _ _
    (low_signs a.t a.first.now i _ c.from-b.ensures b _ pairs) (low_signs a.u a.second.now i _ c.from-c.ensures d _ others)
    (high_signs a.t a.first.now i _ c.from-b.ensures b _ pairs) (high_signs a.u a.second.now i _ c.from-c.ensures d _ others)
    c.loop-i.invariant (omega arith) c.add_fours.ensures c.add_fours-in-loop-i.ensures
