-- `answering::pattern` meets its contract: the NaN has one pattern, and every other double has its bits.
use Rattle.answering.proofs.Lines.{nan-bits}
use mathlib.Core.Path.{sym, ◌∙◌}
use Rattle.answering.proofs.pattern.Goals as goal

pub returns-then-is_nan : goal.returns-then-is_nan
returns-then-is_nan c = nan-bits c.args.x (sym c.is_nan.ensures.value ∙ c.if-is_nan.true)
