-- `opening::put_cap` meets its contract: a dash where the rule has no cap, and else a count.
use borrow.Author.Tests.{eq-eqb, ne_eqb}
use Rattle.fields.proofs.Widths.{width_most}
use native.Mathlib.Omega.{arith}
use Rattle.opening.proofs.put_cap.Goals as goal

pub returns-then-rule-eq1 : goal.returns-then-rule-eq1
returns-then-rule-eq1 c =
    rw (eq-eqb _ _ c.if-rule-eq1.true) c.put_word.ensures

pub put_count-requires : goal.put_count-requires
put_count-requires c = omega (arith, width_most c.args.limit)

pub returns : goal.returns
returns c =
    rw (ne_eqb _ _ c.if-rule-eq1.false) c.put_count.ensures
