-- `bounding::stays_below` meets its contract: while the loop runs the largest magnitude of the rows so far is below the bound, and the first row that is
-- not settles it.
use mathlib.Core.Path.{◌≡◌}
use mathlib.Core.Bool.{true}
use lib.Ieee.{lt}
use Rattle.ieee.specs.Magnitude.{max_abs_to}
use Rattle.columns.specs.Columns.{scaled_at}
use Rattle.columns.specs.Kernels.{less_column}
use Rattle.bounding.proofs.stays_below.Given as goal

abbrev pub invariant-loop-i : goal.invariant-loop-i
invariant-loop-i l = lt (max_abs_to (less_column (scaled_at l.column l.s) l.t l.ax) l.i) l.bound ≡ true
