-- `staying::rows_below` meets its contract: while the loop runs the largest magnitude of the rows so far is below the bound.
use Prim.Native.Nat.{◌*◌}
use mathlib.Core.Bool.{true}
use mathlib.Core.Path.{◌≡◌}
use lib.Ieee.{lt}
use Rattle.ieee.specs.Magnitude.{max_abs_to}
use Rattle.staying.specs.Below.{less_signed}
use Rattle.staying.proofs.rows_below.Given as goal

abbrev pub invariant-loop-i : goal.invariant-loop-i
invariant-loop-i l = lt (max_abs_to (less_signed l.column l.t l.ax) (8 * l.i)) l.bound ≡ true
