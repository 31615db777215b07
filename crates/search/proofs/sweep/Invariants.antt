-- `search::sweep` meets its contract: after j turns the columns below j were tried.
use mathlib.Core.Path.{◌≡◌}
use Rattle.chosen.specs.Entries.{entry_of}
use Rattle.flipping.specs.Search.{sweep_to}
use Rattle.flipping.specs.Searching.{search_of, unswept}
use Rattle.search.proofs.sweep.Given as goal

abbrev pub invariant-loop-j : goal.invariant-loop-j
invariant-loop-j l =
    search_of l.x l.ax l.best l.found
    ≡ sweep_to (entry_of l.matrix l.bits l.n l.cols l.scale) (unswept l.initial.x l.initial.ax l.best) l.j
