-- `blocking::block_worst` meets its contract: a law for each way out, a full basis, no row left, and a row that is blocked.
use lib.Seq.{length-take-le}
use Rattle.chosen.specs.Entries.{entry_of}
use Rattle.blocking.proofs.Scratch.{rest_room}
use Rattle.blocking.proofs.Freezing.{chosen_own, worst_is, all_blocked, basis_full, blocks}
use mathlib.Core.Path.{sym}
use native.Mathlib.Omega.{arith}
use lib.ListN.{length}
use Rattle.blocking.proofs.block_worst.Goals as goal

pub returns-then-count-cols : goal.returns-then-count-cols
returns-then-count-cols c =
    let a = c.args in
    basis_full _ _ a.numbers.now a.blocked.now _ 0 c.if-count-cols.true

pub slice_bounds-worst-end-2 : goal.slice_bounds-worst-end-2
slice_bounds-worst-end-2 c = sym (length-take-le _ _ (omega arith))

pub worst-i-requires : goal.worst-i-requires
worst-i-requires c = sym (length-take-le _ _ (omega arith))

pub returns-then-i-rows : goal.returns-then-i-rows
returns-then-i-rows c =
    let a = c.args in
    all_blocked _ _ a.numbers.now a.blocked.now _ c.worst-i.result
    (worst_is (entry_of a.matrix.now a.bits.now a.n a.cols.now a.scale.now) (length a.cols.now) a.numbers.now
    a.blocked.now a.count _ (omega arith) c.worst-i.ensures) c.if-i-rows.true

pub block_row-requires : goal.block_row-requires
block_row-requires c =
    let a = c.args in
    let p = c.requires in
    (chosen_own p.0, p.1, rest_room _ _ a.numbers.now (omega arith), p.3)

pub returns : goal.returns
returns c =
    let a = c.args in
    let e = entry_of a.matrix.now a.bits.now a.n a.cols.now a.scale.now in
    blocks e (length a.cols.now) a.numbers.now a.blocked.now a.count c.worst-i.result
    c.block_row.result c.block_row.new.basis
    (worst_is e (length a.cols.now) a.numbers.now a.blocked.now a.count _ (omega arith) c.worst-i.ensures)
    c.if-i-rows.false c.if-count-cols.false (omega arith) c.block_row.ensures
