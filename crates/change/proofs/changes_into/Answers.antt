-- `change::changes_into` meets its contract: after each turn every row has its change over the columns before the next at which the weights differ.
use Prim.Native.Nat.{◌+◌}
use mathlib.Core.Path.{◌∙◌}
use native.Mathlib.Omega.{arith}
use lib.ListN.{length}
use Rattle.std.specs.Option.{unwrap_or}
use Rattle.limits.specs.Reading.{read_of}
use Rattle.change.specs.Margins.{change_to}
use Rattle.change.specs.Unmoved.{Unmoved}
use Rattle.change.proofs.ChangeMore.{unmoved-to, block_passed, one_added, two_added}
use Rattle.change.proofs.changes_into.Goals as goal

pub loop-next-init : goal.loop-next-init
unfolding change_to
loop-next-init c =
    let a = c.args in (
      c.next_moved-next.ensures.moved,
      block_passed (read_of a.matrix.now a.bits.now a.n) a.before.now a.after.now a.from _ _ 0 _ (rw c.fill.auto.a c.fill.ensures)
          (unmoved-to c.next_moved-next.result (omega arith) c.next_moved-next.ensures.same),
    )

pub returns-in_default-next_moved : goal.returns-in_default-next_moved
returns-in_default-next_moved c =
    let a = c.args in
    let l = c.loop-next in
    let i = rw c.in-Some.is at l.invariant in
    let u : Unmoved a.before.now a.after.now (c.in-Some.j + 1) (unwrap_or c.next_moved.result (length a.before.now)) = unmoved-to c.next_moved.result
    (omega (arith, i.0)) c.next_moved.ensures.same in
    let u = rw c.in_default-next_moved.is at u in
    rw (← c.fill.auto.a)
    (block_passed (read_of a.matrix.now a.bits.now a.n) a.before.now a.after.now a.from _ _ _ _
    (c.add_rows.ensures
    ∙ one_added (read_of a.matrix.now a.bits.now a.n) a.before.now a.after.now a.from _ l.block c.in-Some.j i.1 (i.0.1 i.0.0))
    u)

pub loop-next-preserved : goal.loop-next-preserved
loop-next-preserved c =
    let a = c.args in
    let l = c.loop-next in
    let i = rw c.in-Some.is at l.invariant in
    let p = c.in-Some-next_moved.p in
    let v = c.in-Some-next_moved.ensures in (
      c.next_moved-next-in-Some.ensures.moved,
      block_passed (read_of a.matrix.now a.bits.now a.n) a.before.now a.after.now a.from _ _ _ _
          (c.add_two_rows.ensures
          ∙ two_added (read_of a.matrix.now a.bits.now a.n) a.before.now a.after.now a.from _ l.block c.in-Some.j i.1 (i.0.1 i.0.0) p
          v.same (v.moved.1 v.moved.0))
          (unmoved-to c.next_moved-next-in-Some.result (omega (arith, v.moved.0)) c.next_moved-next-in-Some.ensures.same),
    )
