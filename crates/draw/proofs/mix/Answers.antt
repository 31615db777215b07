-- `draw::mix` meets its contract: the two wrapping products are those of the definition.
use Rattle.draw.specs.SplitMix.{scrambled, mixed}
use Rattle.draw.proofs.mix.Goals as goal

pub returns : goal.returns
unfolding scrambled mixed
returns c = rw (c.wrapping_mul-twice.ensures, c.wrapping_mul-once.ensures)
