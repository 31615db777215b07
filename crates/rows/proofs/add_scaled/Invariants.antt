-- `rows::add_scaled` meets its contract: after i turns the first i rows have the term of the column more.
use Rattle.seq.proofs.Filling.{Filled}
use Rattle.rows.specs.Blocks.{plus_at}
use Rattle.rows.proofs.add_scaled.Given as goal

abbrev pub invariant-loop-i : goal.invariant-loop-i
invariant-loop-i l = Filled (plus_at l.column l.s l.initial.block) l.initial.block l.i l.block
