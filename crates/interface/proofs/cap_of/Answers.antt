-- `interface::cap_of` meets its contract: the two ways of the test.
use borrow.Author.Tests.{eq-eqb, ne_eqb}
use Rattle.interface.proofs.cap_of.Goals as goal

pub returns-then-capped-eq0 : goal.returns-then-capped-eq0
returns-then-capped-eq0 c = rw (eq-eqb c.args.capped 0 c.if-capped-eq0.true)

pub returns-else-capped-eq0 : goal.returns-else-capped-eq0
returns-else-capped-eq0 c = rw (ne_eqb c.args.capped 0 c.if-capped-eq0.false)
