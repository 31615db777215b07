-- `entries::norms_of_doubles` meets its contract: after each turn each row has the sum over the columns so far, and a turn adds one term to each.
use mathlib.Core.List.{[]}
use mathlib.Core.Path.{◌≡◌}
use lib.ListN.{length}
use Rattle.seq.specs.Sums.{plus_zero}
use Rattle.chosen.specs.Entries.{entry_of}
use Rattle.chosen.specs.Rows.{row_norms}
use Rattle.entries.proofs.norms_of_doubles.Given as goal

abbrev pub invariant-loop-j : goal.invariant-loop-j
invariant-loop-j l = l.acc ≡ row_norms plus_zero (entry_of l.matrix [] l.n l.cols l.scale) (length l.yielded) (length l.initial.acc)
