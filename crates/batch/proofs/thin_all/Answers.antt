-- `batch::thin_all` meets its contract: the call as a whole is tested, and the doubles are lent with no bits beside them.
use Rattle.items.proofs.Testing.{tested_doubles, done_doubles}
use Rattle.batch.proofs.thin_all.Goals as goal

pub thin_tested-requires : goal.thin_tested-requires
thin_tested-requires c =
    let a = c.args in
    tested_doubles a.output.now a.numbers.now a.indices.now c.whole_fault-tested.ensures

pub returns : goal.returns
returns c = done_doubles c.whole_fault-tested.ensures c.thin_tested.ensures
