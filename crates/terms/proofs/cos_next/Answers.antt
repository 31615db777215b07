-- `terms::cos_next` meets its contract: a turn asks what holds at term K, and moves on to the next.
use native.Mathlib.Numerals.{add-one}
use Rattle.terms.proofs.CosTurns.{ready, stepped}
use Rattle.terms.proofs.cos_next.Goals as goal

pub cos_turn-requires : goal.cos_turn-requires
cos_turn-requires g c = ready g.row.K c.requires.0 c.requires.1 c.requires.2

pub returns : goal.returns
returns g c = rw add-one (stepped g.row.K c.requires.0 c.requires.2 c.cos_turn.ensures)
