-- `change::largest_change` meets its contract: after a turn the largest is that of the rows up to the block's end.
use Prim.Native.Nat.{◌%◌, min}
use mathlib.Core.Path.{◌≡◌}
use lib.ListN.{length}
use Rattle.ieee.specs.Magnitude.{max_abs_to}
use Rattle.limits.specs.Reading.{read_of}
use Rattle.change.specs.Margins.{change_to}
use Rattle.change.proofs.largest_change.Given as goal

abbrev pub invariant-loop-from : goal.invariant-loop-from
invariant-loop-from l =
    (l.from % 8 ≡ 0) × (length l.block ≡ length l.initial.block)
    × (l.most ≡ max_abs_to (λ i. change_to (read_of l.matrix l.bits l.n) l.before l.after i (length l.before)) (min l.from l.n))
