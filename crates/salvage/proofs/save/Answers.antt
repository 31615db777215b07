-- `save`: what is held of the text is what is written.
use Rattle.salvage.proofs.Whole.{saves_all}
use Rattle.salvage.proofs.save.Goals as goal

pub returns : goal.returns
returns g c = saves_all _ _ _ _ _ _ c.in_ok-s.ensures.all c.in_ok-write_saved.ensures
