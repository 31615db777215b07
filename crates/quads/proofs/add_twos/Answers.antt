-- `quads::add_twos` meets its contract: it is written out.
use mathlib.Core.Path.{refl}
use Rattle.votes.specs.Signing.{added_twos}
use Rattle.quads.proofs.add_twos.Goals as goal

pub returns : goal.returns
returns c = unfold added_twos in refl
