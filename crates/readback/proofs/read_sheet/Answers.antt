-- `readback::read_sheet` meets its contract: lists that are long enough, a sheet with no wrong line, and each list from its front.
use lib.Seq.{length-take-le}
use Rattle.readback.proofs.Whole.{not_short, line_wrong, all_read, entries_most, entries_lent}
use Rattle.form.proofs.Lines.{sized_right}
use Prim.Native.Nat.{◌*◌}
use mathlib.Core.Path.{sym}
use native.Mathlib.Omega.{arith}
use Rattle.readback.proofs.read_sheet.Goals as goal

pub returns-in-Err : goal.returns-in-Err
returns-in-Err c = line_wrong _ _ _ _ _
    (not_short _ _ _ c.if-matrix-lt2048.false c.if-weights-lt32.false c.if-first-lt7.false) c.in-Err.ensures.0 c.in-Err.ensures.1

pub overflow_mul-size : goal.overflow_mul-size
overflow_mul-size c =
    let z = sized_right _ _ c.in-Ok.ensures.0 c.in-Ok.ensures.1 in
    omega (arith, entries_most c.in-Ok.head z)

pub slice_bounds-read_matrix-end : goal.slice_bounds-read_matrix-end
slice_bounds-read_matrix-end c =
    let z = sized_right _ _ c.in-Ok.ensures.0 c.in-Ok.ensures.1 in
    omega (
      arith,
      entries_most c.in-Ok.head z,
      c.if-matrix-lt2048.false,
    )

pub slice_bounds-read_matrix-end-2 : goal.slice_bounds-read_matrix-end-2
slice_bounds-read_matrix-end-2 c =
    let z = sized_right _ _ c.in-Ok.ensures.0 c.in-Ok.ensures.1 in
    sym (length-take-le (c.in-Ok.head.m * c.in-Ok.head.n) c.args.matrix.now
    (omega (arith, entries_most c.in-Ok.head z, c.if-matrix-lt2048.false)))

pub read_matrix-requires : goal.read_matrix-requires
read_matrix-requires c =
    let z = sized_right _ _ c.in-Ok.ensures.0 c.in-Ok.ensures.1 in
    (omega (arith, z.starts), z.rows, entries_lent c.in-Ok.head c.args.matrix.now z c.if-matrix-lt2048.false)

pub slice_bounds-read_weights-end : goal.slice_bounds-read_weights-end
slice_bounds-read_weights-end c =
    let z = sized_right _ _ c.in-Ok.ensures.0 c.in-Ok.ensures.1 in
    omega (
      arith,
      z.columns,
      c.if-weights-lt32.false,
    )

pub slice_bounds-read_weights-end-2 : goal.slice_bounds-read_weights-end-2
slice_bounds-read_weights-end-2 c =
    let z = sized_right _ _ c.in-Ok.ensures.0 c.in-Ok.ensures.1 in
    sym (length-take-le c.in-Ok.head.m c.args.weights.now (omega (arith, z.columns, c.if-weights-lt32.false)))

pub read_weights-requires : goal.read_weights-requires
read_weights-requires c =
    let z = sized_right _ _ c.in-Ok.ensures.0 c.in-Ok.ensures.1 in (
      omega (arith, z.starts),
      z.rows,
      omega (
        arith,
        z.columns,
        length-take-le c.in-Ok.head.m c.args.weights.now (omega (arith, z.columns, c.if-weights-lt32.false)),
      ),
    )

pub read_first-requires : goal.read_first-requires
read_first-requires c =
    c.if-first-lt7.false

pub returns : goal.returns
returns c =
    let z = sized_right _ _ c.in-Ok.ensures.0 c.in-Ok.ensures.1 in
    all_read _ _ _ _ _ _ _ _ c.if-matrix-lt2048.false c.if-weights-lt32.false
    (not_short _ _ _ c.if-matrix-lt2048.false c.if-weights-lt32.false c.if-first-lt7.false) c.in-Ok.ensures.1 c.in-Ok.ensures.0 z
    c.read_matrix.ensures c.read_weights.ensures c.read_first.ensures
