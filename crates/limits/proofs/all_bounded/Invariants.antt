-- `limits::all_bounded` meets its contract: after i turns it says whether the first i entries pass.
use lib.Ieee.{le}
use Rattle.seq.specs.Sums.{at}
use Rattle.ieee.specs.Magnitude.{abs_of}
use Rattle.seq.specs.Keep.{all_to}
use mathlib.Core.Path.{◌≡◌}
use Rattle.limits.proofs.all_bounded.Given as goal

abbrev pub invariant-loop-x : goal.invariant-loop-x
invariant-loop-x l = l.ok ≡ all_to (λ k. le (abs_of (at l.matrix k)) l.most) l.x-index
