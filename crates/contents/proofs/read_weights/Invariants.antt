-- `contents::read_weights` meets its contract: the loop fills the weights.
use Rattle.seq.proofs.Filling.{Filled}
use Rattle.form.specs.Reading.{double_at, weight_place}
use Rattle.contents.proofs.read_weights.Given as goal

abbrev pub invariant-loop-j : goal.invariant-loop-j
invariant-loop-j l = Filled (λ i. double_at l.text (weight_place l.start l.n i)) l.initial.weights l.j l.weights
