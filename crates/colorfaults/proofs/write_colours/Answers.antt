-- `colorfaults::write_colours` meets its contract: a loop that fills, of which each turn stores the colour of its coordinate.
use Rattle.seq.proofs.Filling.{start, turn, whole}
use native.Mathlib.Omega.{arith}
use Rattle.colorfaults.proofs.write_colours.Goals.{else-x-j, then-x-j}
use Rattle.colorfaults.proofs.write_colours.Goals as goal

pub loop-j-init : goal.loop-j-init
loop-j-init c = start _ _

pub loop-j-preserved : goal.loop-j-preserved
loop-j-preserved c =
    elim c.if-x-j.branch [
      | then-x-j w ↦ rw w.colour-is (turn c.loop-j.invariant (omega arith) (rw w.if-x-j.true))
      | else-x-j w ↦ rw w.colour-is (turn c.loop-j.invariant (omega arith) (rw w.if-x-j.false))
    ]

pub returns : goal.returns
returns c = rw (← c.requires) (whole c.loop-j.invariant (omega arith))
