-- `terms::cos_terms` meets its contract: without a doubt the terms are right, and with one the plain series is taken.
use Rattle.terms.proofs.NearTurns.{last_on}
use Rattle.terms.proofs.cos_terms.Goals as goal

pub returns-then-n-lt9223372036854775808 : goal.returns-then-n-lt9223372036854775808
returns-then-n-lt9223372036854775808 c =
    last_on c.requires (c.near_terms_to_19-n.ensures.sure c.if-n-lt9223372036854775808.true)
