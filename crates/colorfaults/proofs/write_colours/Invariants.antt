-- `colorfaults::write_colours` meets its contract: a loop that fills, of which each turn stores the colour of its coordinate.
use Rattle.seq.proofs.Filling.{Filled}
use Rattle.colorfaults.specs.Discrepancy.{colour_at}
use Rattle.colorfaults.proofs.write_colours.Given as goal

abbrev pub invariant-loop-j : goal.invariant-loop-j
invariant-loop-j l = Filled (colour_at l.x) l.initial.output l.j l.output
