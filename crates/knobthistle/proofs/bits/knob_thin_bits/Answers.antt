-- `knobthistle::bits::knob_thin_bits` meets its contract: the rule is the one that `named_rule` makes.
use Rattle.knobthistle.proofs.bits.knob_thin_bits.Goals as goal

pub returns : goal.returns
returns c =
    rw (← c.named_rule.ensures) c.thin_bits.ensures
