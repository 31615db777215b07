-- `columns::add_two` meets its contract: the loop fills the rows of the columns, and the one under them takes the scales' magnitudes.
use Prim.Native.Nat.{◌≤◌, ◌<◌}
use mathlib.Core.Path.{◌≡◌}
use native.Mathlib.Omega.{arith}
use lib.Ieee.{nan}
use lib.ListN.{length}
use Rattle.seq.proofs.Filling.{start, turn, still, whole}
use Rattle.columns.proofs.Scaled.{scaled_own, scaled_under}
use Rattle.columns.proofs.add_two.Goals as goal

pub loop-i-init : goal.loop-i-init
loop-i-init c = start _ _

pub loop-i-preserved : goal.loop-i-preserved
loop-i-preserved c =
    let v = c.loop-i.invariant in
    let own : c.loop-i.i < length c.args.first.now = omega arith in
    let other : c.loop-i.i < length c.args.second.now = omega (arith, own, c.requires.alike) in
    turn v (omega arith) (rw (
      still v (omega arith) nan,
      scaled_own _ _ _ own,
      scaled_own c.args.second.now c.args.t _ other,
    ))

pub returns-then-under-acc : goal.returns-then-under-acc
returns-then-under-acc c =
    let v = c.loop-i.invariant in
    let all : length c.args.first.now ≤ c.loop-i.i = omega arith in
    let here : length c.args.first.now ≡ c.loop-i.i = omega arith in
    let other : length c.args.second.now ≤ c.loop-i.i = omega (arith, all, c.requires.alike) in
    rw here (whole (turn v (omega arith) (rw (
      still v (omega arith) nan,
      scaled_under _ _ _ all,
      scaled_under c.args.second.now c.args.t _ other,
      c.abs.ensures,
      c.abs-then-under-acc.ensures,
    ))) (omega arith))

pub returns-else-under-acc : goal.returns-else-under-acc
returns-else-under-acc c = whole c.loop-i.invariant (omega arith)
