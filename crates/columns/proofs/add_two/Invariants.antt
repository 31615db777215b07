-- `columns::add_two` meets its contract: the loop fills the rows of the columns, and the one under them takes the scales' magnitudes.
use Rattle.seq.proofs.Filling.{Filled}
use Rattle.columns.specs.Columns.{scaled_at}
use Rattle.columns.specs.Kernels.{plus_columns}
use Rattle.columns.proofs.add_two.Given as goal

abbrev pub invariant-loop-i : goal.invariant-loop-i
invariant-loop-i l =
    Filled (plus_columns (scaled_at l.first l.s) l.g (scaled_at l.second l.t) l.h l.initial.acc) l.initial.acc l.i l.acc
