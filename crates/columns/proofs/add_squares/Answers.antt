-- `columns::add_squares` meets its contract: the loop fills the rows of the column, and the one under them takes |s|.
use Prim.Native.Nat.{◌≤◌}
use mathlib.Core.Path.{◌≡◌}
use native.Mathlib.Omega.{arith}
use lib.Ieee.{nan}
use lib.ListN.{length}
use Rattle.seq.proofs.Filling.{start, turn, still, whole}
use Rattle.columns.proofs.Scaled.{scaled_own, scaled_under}
use Rattle.columns.proofs.add_squares.Goals as goal

pub loop-i-init : goal.loop-i-init
loop-i-init c = start _ _

pub loop-i-preserved : goal.loop-i-preserved
loop-i-preserved c =
    let v = c.loop-i.invariant in
    turn v (omega arith) (rw (still v (omega arith) nan, scaled_own c.args.column.now c.args.s c.loop-i.i (omega arith)))

pub returns-then-under-acc : goal.returns-then-under-acc
returns-then-under-acc c =
    let v = c.loop-i.invariant in
    let all : length c.args.column.now ≤ c.loop-i.i = omega arith in
    let here : length c.args.column.now ≡ c.loop-i.i = omega arith in
    rw here (whole (turn v (omega arith) (rw (
      still v (omega arith) nan,
      scaled_under _ _ _ all,
      c.abs-e.ensures,
    ))) (omega arith))

pub returns-else-under-acc : goal.returns-else-under-acc
returns-else-under-acc c = whole c.loop-i.invariant (omega arith)
