-- `writing::write_sheet` meets its contract: refused, longer than the buffer, or written in a buffer of its own and copied.
use lib.Seq.{length-take-le}
use Rattle.refusal.proofs.Reasons.{given}
use Rattle.writing.specs.Writing.{sheet_for}
use Rattle.writing.proofs.Faults.{accepted}
use Rattle.writing.proofs.Whole.{front_room, refused, too_long, written, sheet_most}
use mathlib.Core.Path.{refl, sym, ◌∙◌}
use native.Mathlib.Omega.{arith}
use Rattle.writing.proofs.write_sheet.Goals as goal

pub returns-in-Err : goal.returns-in-Err
returns-in-Err c = refused _ _ _ _ (c.number.ensures ∙ c.in-Err.ensures) (given _ _ c.number.ensures)

pub put_sheet-long-requires : goal.put_sheet-long-requires
put_sheet-long-requires c =
    let a = accepted _ _ _ _ _ _ _ (sym c.in_default.ensures) in
    (a.columns, a.rows, a.matrices, a.weighed, omega arith)

pub returns-then-text-long : goal.returns-then-text-long
returns-then-text-long c =
    rw c.number-then-text-long.ensures
    (too_long _ _ _ _ _ _ c.in_default.ensures c.put_sheet-long.ensures c.if-text-long.true)

pub slice_bounds-copy_bytes-end-2 : goal.slice_bounds-copy_bytes-end-2
slice_bounds-copy_bytes-end-2 c = sym (length-take-le _ _ c.if-text-long.false)

pub slice_bounds-out-end : goal.slice_bounds-out-end
slice_bounds-out-end c =
    let x = c.args in
    let s = sheet_for x.matrix.now x.m x.n x.weights.now x.seed x.edition x.rule x.allowance x.limit in
    let a = accepted _ _ _ _ _ _ _ (sym c.in_default.ensures) in
    front_room _ _ _ _ c.put_sheet-long.ensures (omega (arith, sheet_most s a.columns a.rows))

pub slice_bounds-copy_bytes-end-3 : goal.slice_bounds-copy_bytes-end-3
slice_bounds-copy_bytes-end-3 c =
    let x = c.args in
    let s = sheet_for x.matrix.now x.m x.n x.weights.now x.seed x.edition x.rule x.allowance x.limit in
    let a = accepted _ _ _ _ _ _ _ (sym c.in_default.ensures) in
    sym (length-take-le _ _ (front_room _ _ _ _ c.put_sheet-long.ensures (omega (arith, sheet_most s a.columns a.rows))))

pub copy_bytes-requires : goal.copy_bytes-requires
copy_bytes-requires c =
    let x = c.args in
    let s = sheet_for x.matrix.now x.m x.n x.weights.now x.seed x.edition x.rule x.allowance x.limit in
    let a = accepted _ _ _ _ _ _ _ (sym c.in_default.ensures) in
    length-take-le _ _ c.if-text-long.false
    ∙ sym (length-take-le _ _ (front_room _ _ _ _ c.put_sheet-long.ensures (omega (arith, sheet_most s a.columns a.rows))))

pub returns : goal.returns
returns c =
    written _ _ _ _ _ _ _ _ c.in_default.ensures c.put_sheet-long.ensures c.if-text-long.false
    c.copy_bytes.ensures refl
