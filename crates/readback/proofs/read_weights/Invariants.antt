-- `readback::read_weights` meets its contract: the loop fills the list.
use Rattle.seq.proofs.Filling.{Filled}
use Rattle.fields.specs.Fields.{bits_at}
use Rattle.form.specs.Reading.{weight_place}
use Rattle.readback.proofs.read_weights.Given as goal

abbrev pub invariant-loop-j : goal.invariant-loop-j
invariant-loop-j l = Filled (λ i. (bits_at l.text (weight_place l.start l.n i)).value) l.initial.weights l.j l.weights
