-- `worst::four_pass` meets its contract: it is written out.
use mathlib.Core.Path.{refl}
use Rattle.worst.proofs.four_pass.Goals as goal

pub returns : goal.returns
returns c =
    rw (
      c.passes.ensures,
      c.passes-2.ensures,
      c.passes-3.ensures,
      c.passes-4.ensures,
    ) refl
