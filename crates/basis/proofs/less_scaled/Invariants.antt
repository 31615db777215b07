-- `basis::less_scaled` meets its contract: the loop fills v, and reads each entry before it writes it.
use Rattle.seq.proofs.Filling.{Filled}
use Rattle.basis.specs.Basis.{less_at}
use Rattle.basis.proofs.less_scaled.Given as goal

abbrev pub invariant-loop-i : goal.invariant-loop-i
invariant-loop-i l = Filled (less_at l.c l.q l.initial.v) l.initial.v l.i l.v
