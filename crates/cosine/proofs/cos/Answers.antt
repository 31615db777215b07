-- `cosine::cos` meets its contract: the two sums are the definition's, and so is their difference.
use Rattle.cosine.proofs.Differences.{unit_is}
use Rattle.cosine.proofs.cos.Goals as goal

pub returns : goal.returns
returns c = unit_is _ c.cos_sums-s.ensures.0 c.unit.ensures
