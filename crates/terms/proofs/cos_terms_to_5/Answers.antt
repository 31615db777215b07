-- `terms::cos_terms_to_5` meets its contract: it starts at the series' first term.
use lib.Dec.{lit<}
use Rattle.terms.proofs.CosTurns.{first_on}
use Rattle.terms.proofs.cos_terms_to_5.Goals as goal

pub cos_next-s-requires : goal.cos_next-s-requires
cos_next-s-requires c = (lit< tt, c.requires, first_on _)
