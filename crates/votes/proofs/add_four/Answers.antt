-- `votes::add_four` meets its contract: it is written out.
use mathlib.Core.Path.{refl}
use Rattle.votes.specs.Signing.{added_four}
use Rattle.votes.proofs.add_four.Goals as goal

pub returns : goal.returns
returns c = unfold added_four in refl
