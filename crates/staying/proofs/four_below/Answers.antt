-- `staying::four_below` meets its contract: it is written out.
use mathlib.Core.Path.{refl}
use Rattle.staying.specs.Below.{below_four}
use Rattle.staying.proofs.four_below.Goals as goal

pub returns : goal.returns
returns c =
    unfold below_four in rw (c.abs.ensures, c.abs-2.ensures, c.abs-3.ensures, c.abs-4.ensures) refl
