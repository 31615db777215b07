-- `weights::normalize` meets its contract: the loop fills from the front with what stood there over the sum of magnitudes.
use Rattle.seq.proofs.Filling.{Filled}
use Rattle.weights.specs.Weights.{over_at}
use Rattle.weights.proofs.normalize.Given as goal

abbrev pub invariant-loop-x : goal.invariant-loop-x
invariant-loop-x l = Filled (over_at l.sum l.initial.w) l.initial.w l.x-index l.w
