-- `logarithm::ln_terms` meets its contract: it starts at the series' first power.
use lib.Dec.{lit≤, lit<}
use Rattle.logarithm.proofs.LnTurns.{first-power}
use Rattle.logarithm.proofs.ln_terms.Goals as goal

pub ln_next-s-requires : goal.ln_next-s-requires
ln_next-s-requires c = (lit≤ tt, lit< tt, first-power _ _ _ c.args.r.square c.upper.ensures)
