-- `answers::refused` meets its contract: the arrays are zeros, as many as the definition has.
use mathlib.Core.Path.{refl}
use Rattle.seq.specs.Lists.{tabulate}
use Rattle.answers.proofs.refused.Goals as goal

pub returns : goal.returns
unfolding tabulate
returns c = refl
