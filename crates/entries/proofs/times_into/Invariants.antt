-- `entries::times_into` meets its contract: after each turn every row has the sum over the columns before the next that may add something.
use Prim.Native.Nat.{◌-◌, ◌<◌}
use mathlib.Core.Path.{◌≡◌}
use Rattle.std.specs.Option.{IfSome, unwrap_or}
use lib.ListN.{length}
use Rattle.seq.specs.Sums.{plus_zero}
use Rattle.chosen.specs.Entries.{entry_of}
use Rattle.chosen.specs.Rows.{times}
use Rattle.entries.proofs.times_into.Given as goal

abbrev pub invariant-loop-next : goal.invariant-loop-next
invariant-loop-next l =
    IfSome l.next (λ p. p < length l.cols)
    × (l.acc ≡ times plus_zero (entry_of l.matrix l.bits l.n l.cols l.scale) (unwrap_or l.next (length l.cols)) (length l.initial.acc) l.g)

abbrev pub decreases-loop-next : goal.decreases-loop-next
decreases-loop-next l = length l.cols - unwrap_or l.next (length l.cols)
