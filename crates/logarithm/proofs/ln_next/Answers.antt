-- `logarithm::ln_next` meets its contract: a turn asks what holds at power K, and moves on to the next.
use native.Mathlib.Numerals.{add-one}
use Rattle.logarithm.proofs.LnTurns.{ready, turned}
use Rattle.logarithm.proofs.ln_next.Goals as goal

pub ln_turn-requires : goal.ln_turn-requires
ln_turn-requires g c = ready g.row.K c.requires.0 c.requires.1 c.args.r.small c.requires.2

pub returns : goal.returns
returns g c = rw add-one (turned g.row.K c.requires.1 c.args.r.square c.requires.2 c.ln_turn.ensures)
