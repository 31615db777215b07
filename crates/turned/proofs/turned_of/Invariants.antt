-- `turned::turned_of` meets its contract: after a turn the count is that of the rows up to the block's end.
use Prim.Native.Nat.{◌%◌, min}
use mathlib.Core.Path.{◌≡◌}
use lib.ListN.{length}
use Rattle.seq.specs.Keep.{count}
use Rattle.limits.specs.Reading.{read_of}
use Rattle.turned.specs.Turned.{turns_at}
use Rattle.turned.proofs.turned_of.Given as goal

abbrev pub invariant-loop-from : goal.invariant-loop-from
invariant-loop-from l =
    (l.from % 8 ≡ 0) × (length l.was ≡ 64) × (length l.is ≡ 64)
    × (l.turned ≡ count (turns_at (read_of l.matrix l.bits l.n) (length l.before) l.before l.after l.thresholds) (min l.from l.n))
