-- `ieee::above` meets its contract: by the two magnitudes, and by whether b is a NaN where a is one.
use mathlib.Core.Path.{◌∙◌}
use lib.Ieee.{lt}
use Rattle.ieee.proofs.Magnitudes.{above_number, above-nan}
use Rattle.ieee.proofs.above.Goals as goal

pub returns-then-a : goal.returns-then-a
returns-then-a c = (λ i. lt (c.abs.ensures i) (c.abs-then-a.ensures i)) ∙ above_number _ _ c.if-a.true

pub returns-else-a : goal.returns-else-a
returns-else-a c = above-nan _ _ c.if-a.false
