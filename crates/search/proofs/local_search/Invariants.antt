-- `search::local_search` meets its contract: what the remaining sweeps give stays the same from sweep to sweep, until none remains or one flips nothing.
use Prim.Native.Nat.{◌-◌}
use mathlib.Core.Path.{◌≡◌}
use lib.ListN.{length}
use Rattle.chosen.specs.Entries.{entry_of}
use Rattle.flipping.specs.Search.{searched}
use Rattle.flipping.proofs.Flips.{remaining}
use Rattle.search.proofs.local_search.Given as goal

abbrev pub invariant-loop-made : goal.invariant-loop-made
invariant-loop-made l =
    searched (entry_of l.matrix l.bits l.n l.cols l.scale) (length l.cols) l.initial.x l.initial.ax
    ≡ remaining (entry_of l.matrix l.bits l.n l.cols l.scale) (length l.cols) (l.made - 1) l.x l.ax l.best
