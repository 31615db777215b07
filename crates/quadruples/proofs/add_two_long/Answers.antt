-- `quadruples::add_two_long` meets its contract: each turn fills the eight rows of a byte, from the tables of quadruples.
use Prim.Native.Nat.{◌<◌}
use native.Mathlib.Omega.{arith}
use Rattle.seq.proofs.Filling.{start}
use Rattle.votes.proofs.Bytes.{bytes_turn}
use Rattle.votes.proofs.Rows.{low_quad, high_quad}
use Rattle.quadruples.proofs.add_two_long.Goals as goal

pub loop-i-init : goal.loop-i-init
loop-i-init c = start _ _

pub loop-i-preserved : goal.loop-i-preserved
loop-i-preserved c =
    let a = c.args in
    let i = c.loop-i.i in
    let b : c.from-b.result < 256 = omega (arith, c.type_inv.first i) in
    let d : c.from-c.result < 256 = omega (arith, c.type_inv.second i) in
    let quads = c.signed_quads-quads.ensures in
    let others = c.signed_quads-others.ensures in
    bytes_turn a.first.now a.t a.second.now a.u a.acc.now _ _ _ _ _ i _ _ _ _ _ _ _ _
    (low_quad a.t a.first.now i _ c.from-b.ensures b _ quads) (low_quad a.u a.second.now i _ c.from-c.ensures d _ others)
    (high_quad a.t a.first.now i _ c.from-b.ensures b _ quads) (high_quad a.u a.second.now i _ c.from-c.ensures d _ others)
    c.loop-i.invariant (omega arith) c.add_two_quads.ensures c.add_two_quads-in-loop-i.ensures
