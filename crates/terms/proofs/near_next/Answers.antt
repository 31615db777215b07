-- `terms::near_next` meets its contract: a turn asks what holds at term K, and moves on to the next.
use native.Mathlib.Numerals.{add-one}
use Rattle.terms.proofs.NearTurns.{near_ready, near_stepped}
use Rattle.terms.proofs.near_next.Goals as goal

pub near_turn-requires : goal.near_turn-requires
near_turn-requires g c =
    let r = near_ready g.row.K c.requires.0 c.requires.1 c.requires.2 c.requires.3 in
    record { cos_ready = r.0; lt_d = r.1 }

pub returns : goal.returns
returns g c = rw add-one (near_stepped g.row.K c.requires.1 c.requires.3 c.near_turn.ensures)
