-- `terms::cos_turn` meets its contract: the upper word of the product, by the divisor, is the next term.
use mathlib.Core.Path.{refl}
use mir.Facts.{Fits-bits}
use Rattle.terms.proofs.cos_turn.Goals as goal

pub overflow_add-result : goal.overflow_add-result
overflow_add-result c = Fits-bits 64 tt (rw c.upper.ensures c.requires.sum_fits)

pub returns : goal.returns
returns c = record { term_is = rw c.upper.ensures; plus_is = rw c.upper.ensures; minus_is = refl }
