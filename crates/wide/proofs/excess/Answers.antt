-- `wide::excess` meets its contract: the lower words differ by the wrapped rest, and the upper ones by the borrow.
use Rattle.std.proofs.Common.{arith}
use Rattle.wide.proofs.Words.{excess_law}
use Rattle.wide.proofs.excess.Goals as goal

pub returns-then-p1-borrow : goal.returns-then-p1-borrow
returns-then-p1-borrow c =
    let e = c.overflowing_sub-rest.ensures in
    λ l. excess_law _ _ _ _ _ c.ranges.n0.fits c.ranges.p0.fits (omega arith) e.value _ e.overflow c.if-p1-borrow.true
