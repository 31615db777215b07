-- `limits::all_finite` meets its contract: after i turns it says whether the first i numbers are finite.
use lib.Ieee.Scale.{finite}
use Rattle.seq.specs.Sums.{at}
use Rattle.seq.specs.Keep.{all_to}
use mathlib.Core.Path.{◌≡◌}
use Rattle.limits.proofs.all_finite.Given as goal

abbrev pub invariant-loop-x : goal.invariant-loop-x
invariant-loop-x l = l.ok ≡ all_to (λ k. finite (at l.v k)) l.x-index
