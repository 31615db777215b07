-- `staying::rows_below` meets its contract: while the loop runs the largest magnitude of the rows so far is below the bound.
use Prim.Native.Nat.{◌<◌}
use mathlib.Core.Path.{◌≡◌, subst, sym, ◌∙◌}
use native.Mathlib.Omega.{arith}
use lib.Dec.{T}
use lib.Ieee.{binary64, fits}
use lib.ListN.{get_or, length-take}
use Rattle.std.proofs.Common.{get_or-take}
use Rattle.ieee.specs.Magnitude.{max_abs_to}
use Rattle.staying.proofs.Under.{byte_under}
use Rattle.staying.proofs.rows_below.Goals as goal

pub loop-i-init : goal.loop-i-init
loop-i-init c = unfold max_abs_to in c.requires.2

pub loop-i-preserved : goal.loop-i-preserved
loop-i-preserved c =
    let a = c.args in
    let bound : T (fits binary64 a.bound) = subst T (sym c.well_formed.1.1.1.1.0.1) tt in
    let here : c.loop-i.i < a.k = omega (arith, length-take a.k a.column.now) in
    let b : c.from-b.result ≡ get_or a.column.now c.loop-i.i 0 = rw (get_or-take a.k a.column.now c.loop-i.i 0 here) at c.from-b.ensures in
    byte_under a.column.now a.t a.ax.now a.bound bound _ c.loop-i.i c.from-b.result c.signed_pairs-pairs.ensures b
    (omega (arith, c.type_inv.column c.loop-i.i)) c.loop-i.invariant
    (sym c.four_below.ensures ∙ c.if-not-four_below.false)
    (sym c.four_below-else-not-four_below.ensures ∙ c.if-not-four_below-2.false)
