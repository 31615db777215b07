-- `worst::is_worse` meets its contract: each way out is one of the choices of the definition.
use borrow.Author.Tests.{eq-eqb, ne_eqb}
use lib.ListN.{length, get_or}
use Rattle.worst.proofs.is_worse.Goals as goal

pub returns-then-blocked-i-eq1 : goal.returns-then-blocked-i-eq1
returns-then-blocked-i-eq1 c = rw (eq-eqb (get_or c.args.blocked.now c.args.i 0) 1 c.if-blocked-i-eq1.true)

pub returns-then-w-ax : goal.returns-then-w-ax
returns-then-w-ax c =
    let a = c.args in
    rw (ne_eqb (get_or a.blocked.now a.i 0) 1 c.if-blocked-i-eq1.false, eq-eqb a.w (length a.ax.now) c.if-w-ax.true)

pub returns : goal.returns
returns c =
    let a = c.args in
    rw (
      ne_eqb (get_or a.blocked.now a.i 0) 1 c.if-blocked-i-eq1.false,
      ne_eqb a.w (length a.ax.now) c.if-w-ax.false,
      c.above.ensures,
    )
