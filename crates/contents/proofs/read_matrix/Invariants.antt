-- `contents::read_matrix` meets its contract: the loop fills the matrix.
use Rattle.seq.proofs.Filling.{Filled}
use Rattle.form.specs.Reading.{double_at, entry_place}
use Rattle.contents.proofs.read_matrix.Given as goal

abbrev pub invariant-loop-k : goal.invariant-loop-k
invariant-loop-k l = Filled (λ i. double_at l.text (entry_place l.start l.n i)) l.initial.matrix l.k l.matrix
