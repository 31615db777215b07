-- `entries::row_into` meets its contract: the loop fills the row, an entry a column.
use Rattle.seq.proofs.Filling.{Filled}
use Rattle.chosen.specs.Entries.{entry_of}
use Rattle.entries.proofs.row_into.Given as goal

abbrev pub invariant-loop-p : goal.invariant-loop-p
invariant-loop-p l = Filled (λ q. entry_of l.matrix l.bits l.n l.cols l.scale q l.i) l.initial.v l.p l.v
