-- `gathering::hold` meets its contract: by whether more of the line is held.
use borrow.Author.Tests.{lt-ltb, le-ltb}
use Rattle.gathering.proofs.hold.Goals as goal

pub returns-then-long-lt1110 : goal.returns-then-long-lt1110
returns-then-long-lt1110 c =
    let p = lt-ltb _ _ c.if-long-lt1110.true in
    record { counts = rw p; writes = rw p }

pub returns : goal.returns
returns c =
    let p = le-ltb _ _ c.if-long-lt1110.false in
    record { counts = rw p; writes = rw p }
