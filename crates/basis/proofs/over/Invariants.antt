-- `basis::over` meets its contract: the loop fills the part that is lent.
use Rattle.seq.proofs.Filling.{Filled}
use Rattle.basis.specs.Basis.{over_at}
use Rattle.basis.proofs.over.Given as goal

abbrev pub invariant-loop-i : goal.invariant-loop-i
invariant-loop-i l = Filled (over_at l.d l.w) l.initial.to l.i l.to
