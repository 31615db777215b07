-- `lines::columns_from` meets its contract: after j turns j columns are passed, and what stands from there is what is left to count.
use Rattle.form.proofs.Columns.{Passed}
use Rattle.lines.proofs.columns_from.Given as goal

abbrev pub invariant-loop-j : goal.invariant-loop-j
invariant-loop-j l = Passed l.text l.n l.at l.m l.j
