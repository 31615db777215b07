-- `items::no_answers` meets its contract: the array is one answer of zeros, as many times as the definition has it.
use mathlib.Core.Path.{refl, ap}
use Rattle.seq.specs.Lists.{tabulate, repeated}
use Rattle.answers.specs.declared.Answer.{Answer}
use Rattle.items.proofs.no_answers.Goals as goal

pub returns : goal.returns
unfolding tabulate
returns c = (refl, ap (λ (x : Answer). repeated x 64) c.refused-none.ensures)
