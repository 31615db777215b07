-- `freeze::freeze` meets its contract: after p turns the scratch holds the walk of which the coordinates below p were looked at.
use Rattle.blocking.proofs.Freezing.{Freezing}
use Rattle.chosen.specs.Entries.{entry_of}
use lib.ListN.{length}
use Rattle.freeze.proofs.freeze.Given as goal

abbrev pub invariant-loop-p : goal.invariant-loop-p
invariant-loop-p l =
    Freezing (entry_of l.matrix l.bits l.n l.cols l.scale) (length l.cols) l.initial.numbers l.initial.blocked l.initial.x l.initial.free l.initial.v l.initial.f.count l.initial.f.frozen l.numbers l.blocked l.x l.free l.v l.f.count l.f.frozen l.p
