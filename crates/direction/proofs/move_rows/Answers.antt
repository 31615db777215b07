-- `direction::move_rows` meets its contract: after i turns the first i rows are moved.
use Rattle.seq.proofs.Filling.{start, turn, still, whole}
use Rattle.direction.specs.Step.{along}
use Rattle.seq.specs.Lists.{part}
use mathlib.Core.Path.{◌≡◌}
use lib.ListN.{drop, length-drop}
use lib.Seq.{take_all}
use native.Mathlib.Omega.{arith}
use lib.Ieee.{nan}
use Rattle.direction.proofs.move_rows.Goals as goal

pub loop-i-init : goal.loop-i-init
loop-i-init c = start _ _

pub loop-i-preserved : goal.loop-i-preserved
loop-i-preserved c = turn c.loop-i.invariant (omega arith) (rw (still c.loop-i.invariant (omega arith) nan))

pub returns : goal.returns
unfolding along
returns c =
    let halves = c.split_at_mut-ax.ensures in
    let both = c.args.both.now in
    let second : part c.args.rows c.args.rows both ≡ drop c.args.rows both =
    take_all c.args.rows (drop c.args.rows both) (simp length-drop (omega arith)) in
    rw (second, whole c.loop-i.invariant (omega arith), halves.front, halves.back)
