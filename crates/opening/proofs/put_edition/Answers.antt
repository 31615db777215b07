-- `opening::put_edition` meets its contract: edition 2 is written, and no other.
use borrow.Author.Tests.{eq-eqb, ne_eqb}
use Rattle.opening.proofs.put_edition.Goals as goal

pub returns-then-edition-eq2 : goal.returns-then-edition-eq2
returns-then-edition-eq2 c =
    rw (eq-eqb _ _ c.if-edition-eq2.true) c.put_word.ensures

pub returns : goal.returns
returns c =
    rw (ne_eqb _ _ c.if-edition-eq2.false) c.put_word-2.ensures
