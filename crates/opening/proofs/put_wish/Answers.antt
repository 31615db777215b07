-- `opening::put_wish` meets its contract: by the rule's number.
use borrow.Author.Tests.{eq-eqb, ne_eqb}
use Rattle.opening.proofs.put_wish.Goals as goal

pub returns-then-rule-eq0 : goal.returns-then-rule-eq0
returns-then-rule-eq0 c =
    rw (eq-eqb _ _ c.if-rule-eq0.true) c.put_target.ensures

pub returns : goal.returns
returns c =
    rw (ne_eqb _ _ c.if-rule-eq0.false) c.put_within.ensures
