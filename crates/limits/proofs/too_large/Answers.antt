-- `limits::too_large` meets its contract: where the first test fails, the second is the answer.
use borrow.Author.Tests.{lt-ltb, le-ltb}
use Rattle.limits.proofs.too_large.Goals as goal

pub returns-then-m-gt256 : goal.returns-then-m-gt256
returns-then-m-gt256 c = rw (lt-ltb 256 c.args.m c.if-m-gt256.true)

pub returns-else-m-gt256 : goal.returns-else-m-gt256
returns-else-m-gt256 c = rw (le-ltb 256 c.args.m c.if-m-gt256.false)
