-- `knobthistle::knob_thin_votes` meets its contract: the rule is the one that `named_rule` makes.
use Rattle.knobthistle.proofs.knob_thin_votes.Goals as goal

pub returns : goal.returns
returns c =
    rw (← c.named_rule.ensures) c.thin_votes.ensures
