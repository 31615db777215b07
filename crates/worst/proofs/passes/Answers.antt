-- `worst::passes` meets its contract: it is written out.
use mathlib.Core.Path.{refl}
use Rattle.worst.proofs.passes.Goals as goal

pub returns : goal.returns
returns c = rw c.at_most.ensures refl
