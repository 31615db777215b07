-- `body::put_columns` meets its contract. The loop's invariant: the lines of the first j columns are put.
use Rattle.body.proofs.Loops.{columning_start, columning_turn, columning_whole, column_inside, column_ends}
use native.Mathlib.Nat.{add-sub_cancel_left}
use Rattle.seq.specs.Lists.{part}
use Rattle.seq.proofs.Parts.{length_part}
use Prim.Native.Nat.{ℕ, ◌+◌, ◌*◌, ◌-◌}
use mathlib.Core.Path.{◌≡◌, ap}
use native.Mathlib.Omega.{arith}
use lib.ListN.{length}
use Rattle.body.proofs.put_columns.Goals as goal

pub loop-j-init : goal.loop-j-init
loop-j-init c =
    columning_start c.args.matrix.now c.args.n c.args.weights.now c.args.at c.args.out.now

pub overflow_mul-start : goal.overflow_mul-start
overflow_mul-start c =
    omega (
      arith,
      column_inside c.loop-j.j (length c.args.weights.now) c.args.n
          (omega (arith, c.loop-j-test.true)) c.requires.columns c.requires.rows,
      c.requires.entries,
    )

pub overflow_add-start : goal.overflow_add-start
overflow_add-start c =
    omega (
      arith,
      column_inside c.loop-j.j (length c.args.weights.now) c.args.n
          (omega (arith, c.loop-j-test.true)) c.requires.columns c.requires.rows,
      c.requires.entries,
    )

pub offset_bounds-matrix-start : goal.offset_bounds-matrix-start
offset_bounds-matrix-start c =
    omega (
      arith,
      column_inside c.loop-j.j (length c.args.weights.now) c.args.n
          (omega (arith, c.loop-j-test.true)) c.requires.columns c.requires.rows,
      c.requires.entries,
    )

pub slice_bounds-put_column-end : goal.slice_bounds-put_column-end
slice_bounds-put_column-end c =
    omega (
      arith,
      column_inside c.loop-j.j (length c.args.weights.now) c.args.n
          (omega (arith, c.loop-j-test.true)) c.requires.columns c.requires.rows,
      c.requires.entries,
    )

pub put_column-end-requires : goal.put_column-end-requires
put_column-end-requires c =
    let j = c.loop-j.j in
    let n = c.args.n in
    let many = length c.args.weights.now in
    let inside = column_inside j many n (omega (arith, c.loop-j-test.true)) c.requires.columns c.requires.rows in
    let ends = column_ends j many n (omega (arith, c.loop-j-test.true)) c.requires.columns c.requires.rows in
    let lent : length (part (j * n) (j * n + n - j * n) c.args.matrix.now) ≡ n = rw (add-sub_cancel_left (j * n) n)
    (length_part (j * n) n c.args.matrix.now (omega (arith, c.requires.entries))) in
    omega (arith, lent, c.loop-j.invariant.near, c.loop-j.invariant.same, c.requires.start, c.requires.room)

pub loop-j-preserved : goal.loop-j-preserved
loop-j-preserved c =
    let j = c.loop-j.j in
    let n = c.args.n in
    let many = length c.args.weights.now in
    let inside = column_inside j many n (omega (arith, c.loop-j-test.true)) c.requires.columns c.requires.rows in
    columning_turn c.put_column-end.result c.put_column-end.new.out _ c.loop-j.invariant
    (omega (arith, c.loop-j-test.true)) c.requires.start c.requires.columns c.requires.rows c.requires.room
    c.put_column-end.auto.out (omega (arith, c.requires.entries))
    (ap (λ (k : ℕ). part (j * n) k c.args.matrix.now) (add-sub_cancel_left (j * n) n))
    c.put_column-end.ensures

pub shape_of-out : goal.shape_of-out
shape_of-out c = c.loop-j.invariant.same

pub returns : goal.returns
returns c = columning_whole c.loop-j.invariant (omega (arith, c.loop-j-test.false))
