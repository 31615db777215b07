-- `ieee::larger` meets its contract: a value is a NaN where it does not equal itself.
use lib.Ieee.{lt}
use Rattle.ieee.specs.Magnitude.{larger_of}
use Rattle.ieee.proofs.Magnitudes.{chosen-second, chosen-first, nan_skipped}
use Rattle.ieee.proofs.larger.Goals as goal

pub returns-then-x-y : goal.returns-then-x-y
unfolding larger_of
returns-then-x-y c = chosen-second _ _ _ c.if-x-y.true

pub returns-else-x-y : goal.returns-else-x-y
unfolding larger_of
returns-else-x-y c = chosen-first _ _ _ c.if-x-y.false c.if-x.true

pub returns-else-x : goal.returns-else-x
unfolding larger_of
returns-else-x c = nan_skipped _ _ (lt c.args.x c.args.y) c.if-x.false
