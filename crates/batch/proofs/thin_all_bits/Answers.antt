-- `batch::thin_all_bits` meets its contract: the call as a whole is tested, and the bits are lent with no doubles beside them.
use Rattle.items.proofs.Testing.{tested_bits, done-bits}
use Rattle.batch.proofs.thin_all_bits.Goals as goal

pub thin_tested-requires : goal.thin_tested-requires
thin_tested-requires c =
    let a = c.args in
    tested_bits a.output.now a.numbers.now a.indices.now c.bits_whole_fault-tested.ensures

pub returns : goal.returns
returns c = done-bits c.args.bits.now c.bits_whole_fault-tested.ensures c.thin_tested.ensures
