-- `turned::margins_into` meets its contract: after j turns each row has its margin over the first j columns, and a turn adds one term to each.
use Prim.Native.Nat.{◌+◌}
use mathlib.Core.Path.{◌≡◌}
use lib.ListN.{length}
use Rattle.seq.specs.Lists.{tabulate}
use Rattle.limits.specs.Reading.{read_of}
use Rattle.turned.specs.Turned.{margin_at}
use Rattle.turned.proofs.margins_into.Given as goal

abbrev pub invariant-loop-j : goal.invariant-loop-j
invariant-loop-j l =
    l.block ≡ tabulate (λ i. margin_at (read_of l.matrix l.bits l.n) l.j l.weights (l.from + i)) (length l.initial.block)
