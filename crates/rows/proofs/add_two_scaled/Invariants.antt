-- `rows::add_two_scaled` meets its contract: after i turns the first i rows have the terms of both columns more.
use Rattle.seq.proofs.Filling.{Filled}
use Rattle.rows.specs.Blocks.{plus_two_at}
use Rattle.rows.proofs.add_two_scaled.Given as goal

abbrev pub invariant-loop-i : goal.invariant-loop-i
invariant-loop-i l = Filled (plus_two_at l.first l.s l.second l.t l.initial.block) l.initial.block l.i l.block
