-- `readback::read_matrix` meets its contract: the loop fills the list.
use Rattle.seq.proofs.Filling.{Filled}
use Rattle.fields.specs.Fields.{bits_at}
use Rattle.form.specs.Reading.{entry_place}
use Rattle.readback.proofs.read_matrix.Given as goal

abbrev pub invariant-loop-k : goal.invariant-loop-k
invariant-loop-k l = Filled (λ i. (bits_at l.text (entry_place l.start l.n i)).value) l.initial.matrix l.k l.matrix
