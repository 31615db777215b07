-- `knobthistle::bits::knob_sparsify_within_bits` meets its contract: the cap is the one that `cap_of` makes.
use Rattle.knobthistle.proofs.bits.knob_sparsify_within_bits.Goals as goal

pub returns : goal.returns
returns c = rw (← c.cap_of.ensures)
    c.sparsify_within_bits.ensures
