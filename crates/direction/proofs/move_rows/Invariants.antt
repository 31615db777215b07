-- `direction::move_rows` meets its contract: after i turns the first i rows are moved.
use Rattle.seq.proofs.Filling.{Filled}
use Rattle.direction.specs.Step.{along_at}
use Rattle.direction.proofs.move_rows.Given as goal

abbrev pub invariant-loop-i : goal.invariant-loop-i
invariant-loop-i l = Filled (along_at l.t l.initial.ax l.ag) l.initial.ax l.i l.ax
