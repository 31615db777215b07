-- `staying::votes_stay_below` meets its contract: the rows that `rows_below` passed are below the bound, and the loop goes on from there.
use mathlib.Core.Bool.{true}
use mathlib.Core.Path.{◌≡◌}
use lib.Ieee.{lt}
use Rattle.ieee.specs.Magnitude.{max_abs_to}
use Rattle.columns.specs.Kernels.{less_column}
use Rattle.staying.specs.Scaling.{scaled_votes}
use Rattle.staying.proofs.votes_stay_below.Given as goal

abbrev pub invariant-loop-i : goal.invariant-loop-i
invariant-loop-i l = lt (max_abs_to (less_column (scaled_votes l.column l.n l.s) l.t l.ax) l.i) l.bound ≡ true
