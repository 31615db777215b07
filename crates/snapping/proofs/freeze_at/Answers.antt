-- `snapping::freeze_at` meets its contract: the law `freezes-at`, at what its calls ensure.
use Rattle.chosen.specs.Entries.{entry_of}
use Rattle.blocking.specs.Freeze.{axis}
use Rattle.blocking.proofs.Freezing.{room_after, freezes-at}
use Prim.Native.Nat.{ℕ}
use mathlib.Core.Path.{ap, ◌∙◌}
use mathlib.Core.List.{[]}
use lib.Ieee.{nan}
use lib.ListN.{length}
use Rattle.snapping.proofs.freeze_at.Goals as goal

pub block_worst-requires : goal.block_worst-requires
block_worst-requires c =
    let a = c.args in
    let p = c.requires in
    let r = room_after (entry_of a.matrix.now a.bits.now a.n a.cols.now a.scale.now) (length a.cols.now) a.numbers.now
    a.blocked.now a.x.now a.free.now a.count a.p c.insert-c.result 0 nan
    c.insert-c.new.basis [] [] p.1 c.axis_into.new.v c.insert-c.auto.basis
    c.insert-c.ensures in
    (p.0, c.insert-c.auto.v ∙ c.axis_into.auto.v ∙ p.2, r.0, r.1)

pub returns : goal.returns
returns c =
    let a = c.args in
    let p = c.requires in
    freezes-at (entry_of a.matrix.now a.bits.now a.n a.cols.now a.scale.now) (length a.cols.now) a.numbers.now a.blocked.now
    a.x.now a.free.now a.count a.p c.insert-c.result c.block_worst.result
    c.signum.result c.insert-c.new.basis c.block_worst.new.numbers
    c.block_worst.new.blocked p.1
    c.axis_into.new.v (c.axis_into.ensures ∙ ap (λ (k : ℕ). axis k a.p) p.2)
    c.signum.ensures c.insert-c.ensures c.block_worst.ensures
    c.block_worst.auto.blocked
