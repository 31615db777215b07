-- `knobthistle::knob_sparsify_within` meets its contract: the cap is the one that `cap_of` makes.
use Rattle.knobthistle.proofs.knob_sparsify_within.Goals as goal

pub returns : goal.returns
returns c = rw (← c.cap_of.ensures)
    c.sparsify_within.ensures
