-- `direction::turn_if` meets its contract: after i turns the first i places are turned.
use Rattle.seq.proofs.Filling.{start, turn, still, whole, tab-get_or}
use Rattle.direction.specs.Direction.{turned}
use mathlib.Core.Path.{ap, sym, ◌∙◌}
use native.Mathlib.Omega.{arith}
use lib.ListN.{length}
use lib.Seq.{take_all}
use lib.Ieee.{neg, nan}
use Rattle.direction.proofs.turn_if.Goals as goal

pub loop-x-init : goal.loop-x-init
loop-x-init c = start _ _

pub loop-x-preserved : goal.loop-x-preserved
loop-x-preserved c = turn c.loop-x.invariant (omega arith) (ap neg (still c.loop-x.invariant (omega arith) nan))

pub returns-after-loop-x : goal.returns-after-loop-x
unfolding turned
returns-after-loop-x c = rw c.if-t.true (whole c.loop-x.invariant (omega arith))

pub returns-else-t : goal.returns-else-t
unfolding turned
returns-else-t c =
    let v = c.args.v.now in
    rw c.if-t.false (sym (tab-get_or v (length v) nan (omega arith) ∙ take_all (length v) v (omega arith)))
