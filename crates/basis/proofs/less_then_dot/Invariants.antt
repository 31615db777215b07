-- `basis::less_then_dot` meets its contract: the loop fills v, and the sum is that of the products with what it has filled in.
use mathlib.Core.Path.{◌≡◌}
use lib.Ieee.{binary64, mul}
use Rattle.seq.specs.Sums.{sum_from, plus_zero, at}
use Rattle.seq.proofs.Filling.{Filled}
use Rattle.basis.specs.Basis.{less_at}
use Rattle.basis.proofs.less_then_dot.Given as goal

abbrev pub invariant-loop-i : goal.invariant-loop-i
invariant-loop-i l = Filled (less_at l.c l.q l.initial.v) l.initial.v l.i l.v × (l.along ≡ sum_from binary64 plus_zero (λ j. mul binary64 (at l.r j) (less_at l.c l.q l.initial.v j)) l.i)
