-- `change::changes_into` meets its contract: after each turn every row has its change over the columns before the next at which the weights differ.
use Rattle.seq.specs.Lists.{tabulate}
use Rattle.limits.specs.Reading.{read_of}
use Rattle.change.specs.Margins.{change_to}
use Rattle.change.specs.Unmoved.{Differs}
use Rattle.std.specs.Option.{IfSome, unwrap_or}
use Prim.Native.Nat.{◌+◌, ◌-◌, ◌<◌}
use mathlib.Core.Path.{◌≡◌}
use lib.ListN.{length}
use Rattle.change.proofs.changes_into.Given as goal

abbrev pub invariant-loop-next : goal.invariant-loop-next
invariant-loop-next l =
    IfSome l.next (λ j. (j < length l.before) × Differs l.before l.after j)
    × (l.block
    ≡ tabulate (λ i. change_to (read_of l.matrix l.bits l.n) l.before l.after (l.from + i) (unwrap_or l.next (length l.before))) (length l.initial.block))

abbrev pub decreases-loop-next : goal.decreases-loop-next
decreases-loop-next l = length l.before - unwrap_or l.next (length l.before)
