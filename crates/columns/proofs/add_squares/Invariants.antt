-- `columns::add_squares` meets its contract: the loop fills the rows of the column, and the one under them takes |s|.
use Rattle.seq.proofs.Filling.{Filled}
use Rattle.columns.specs.Columns.{scaled_at}
use Rattle.columns.specs.Kernels.{plus_squares}
use Rattle.columns.proofs.add_squares.Given as goal

abbrev pub invariant-loop-i : goal.invariant-loop-i
invariant-loop-i l = Filled (plus_squares (scaled_at l.column l.s) l.initial.acc) l.initial.acc l.i l.acc
