-- `begin::block_first` meets its contract: after k turns the first k rows are blocked.
use Rattle.chosen.specs.Entries.{entry_of}
use Rattle.begin.proofs.Starting.{Blocking}
use lib.ListN.{length}
use Rattle.begin.proofs.block_first.Given as goal

abbrev pub invariant-loop-row : goal.invariant-loop-row
invariant-loop-row l =
    Blocking (entry_of l.matrix l.bits l.n l.cols l.scale) (length l.cols) l.first l.initial.numbers (length l.initial.blocked) l.initial.v l.numbers l.blocked l.v l.count l.row-index
