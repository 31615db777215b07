-- `advance::advance` meets its contract: a law for each way out, a step that is not finite and one that is made.
use Rattle.chosen.specs.Entries.{entry_of}
use Rattle.advance.proofs.Advancing.{no_way, goes_along}
use Prim.Native.Nat.{◌+◌, ◌-◌}
use mathlib.Core.Path.{sym, ◌∙◌}
use native.Mathlib.Omega.{arith}
use Rattle.advance.proofs.advance.Goals as goal

pub returns-then-not-is_finite : goal.returns-then-not-is_finite
returns-then-not-is_finite c =
    let a = c.args in
    let p = c.requires in
    no_way (entry_of a.matrix.now a.bits.now a.n a.cols.now a.scale.now) a.rows a.numbers.now a.x.now a.free.now
    a.g.now c.turn_downhill.new.numbers c.turn_downhill.new.g
    c.reach-t.result
    c.turn_downhill.ensures (p.1 ∙ sym p.2) c.reach-t.ensures c.is_finite.result
    c.is_finite.ensures (c.if-not-is_finite.true)

pub returns : goal.returns
returns c =
    let a = c.args in
    let p = c.requires in
    goes_along (entry_of a.matrix.now a.bits.now a.n a.cols.now a.scale.now) a.rows a.numbers.now a.x.now a.free.now
    a.g.now c.turn_downhill.new.numbers c.turn_downhill.new.g
    c.reach-t.result
    c.turn_downhill.ensures (p.1 ∙ sym p.2) c.reach-t.ensures c.is_finite.result
    (a.rows + a.rows - 0) c.move_rows.new.both c.move_free.new.x
    c.is_finite.ensures (c.if-not-is_finite.false)
    (omega arith) (omega (arith, c.turn_downhill.auto.numbers, p.4)) c.move_free.ensures c.move_rows.ensures
