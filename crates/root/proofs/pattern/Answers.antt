-- `root::pattern` meets its contract. A bit pattern is read as its digits times a power of two.
use mathlib.Core.Path.{sym, ◌∙◌}
use Rattle.root.proofs.RootPattern.{sqrt_low, sqrt_high}
use Rattle.root.proofs.pattern.Goals as goal

pub returns-then-e-eq0 : goal.returns-then-e-eq0
returns-then-e-eq0 c = (c.scaled.ensures.0, c.scaled.ensures.1 ∙ sym (sqrt_low _ c.requires.0 c.if-e-eq0.true))

pub returns-else-e-eq0 : goal.returns-else-e-eq0
returns-else-e-eq0 c = (c.scaled-else-e-eq0.ensures.0, c.scaled-else-e-eq0.ensures.1 ∙ sym (sqrt_high _ c.requires.1 c.if-e-eq0.false))
