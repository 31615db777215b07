-- `votes::add_bytes` meets its contract: each turn fills the eight rows of a byte.
use mathlib.Core.Path.{◌≡◌}
use native.Mathlib.Omega.{arith}
use Prim.Native.Nat.{◌<◌}
use lib.ListN.{get_or, length-take}
use Rattle.std.proofs.Common.{get_or-take}
use Rattle.seq.proofs.Filling.{start}
use Rattle.votes.proofs.Bytes.{byte_turn}
use Rattle.votes.proofs.add_bytes.Goals as goal

pub loop-i-init : goal.loop-i-init
loop-i-init c = start _ _

pub loop-i-preserved : goal.loop-i-preserved
loop-i-preserved c =
    let a = c.args in
    let here : c.loop-i.i < a.k = omega (arith, length-take a.k a.column.now) in
    let e : c.from-b.result ≡ get_or a.column.now c.loop-i.i 0 = rw (get_or-take a.k a.column.now c.loop-i.i 0 here) at c.from-b.ensures in
    byte_turn a.column.now a.t a.acc.now _ _ _ _ c.loop-i.i c.from-b.result c.signed_pairs-pairs.ensures e
    (omega (arith, c.type_inv.column c.loop-i.i)) c.loop-i.invariant (omega arith)
    c.add_four.ensures c.add_four-in-loop-i.ensures
