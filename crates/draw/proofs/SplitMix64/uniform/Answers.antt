-- `draw::SplitMix64::uniform` meets its contract: the uniform is that of the next output, and the edition has stayed.
use Rattle.std.proofs.Common.{◌∙◌}
use Rattle.draw.specs.SplitMix.{after_of}
use Rattle.draw.specs.Uniform.{uniform_in}
use Rattle.draw.proofs.SplitMix64.uniform.Goals as goal

pub returns : goal.returns
unfolding uniform_in after_of
returns c = (c.uniform_of.ensures ∙ rw (c.next_u64-word.ensures.1, c.next_u64-word.ensures.0), c.next_u64-word.ensures.1)
