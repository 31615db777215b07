-- `read_all`: what is to be held of what was read is held, and there are at most 65536 lines a piece.
use Rattle.salvage.proofs.Reading.{Reading}
use Rattle.salvage.proofs.Whole.{Gathered}
use Rattle.salvage.proofs.read_all.Given as goal

abbrev pub invariant-loop-turn : goal.invariant-loop-turn
invariant-loop-turn g l =
    Reading l.initial.room l.initial.marks l.room l.marks l.s l.piece l._turn
    × Gathered (g.R.Read.remaining l.initial.input) (g.R.Read.remaining l.input) l.s l.room l.marks l._turn
