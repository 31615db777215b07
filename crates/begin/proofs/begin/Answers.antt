-- `begin::begin` meets its contract: the rows that `first_rows` leaves are those most at risk, and `block_first` blocks them.
use Rattle.chosen.specs.Entries.{entry_of}
use lib.Seq.{length-take-le}
use Rattle.seq.specs.Lists.{repeated}
use Rattle.begin.proofs.Starting.{pushed_fits, pushed_long, normed_long, first-rows-below, begun_is}
use borrow.Author.Rules.{rules}
use Prim.Native.Nat.{◌+◌, ◌-◌, ◌/◌}
use mathlib.Core.Path.{refl, sym, ap, ◌∙◌}
use mathlib.Core.List.{[]}
use native.Mathlib.Omega.{arith}
use lib.ListN.{length}
use Rattle.begin.proofs.begin.Goals as goal

pub norms_into-requires : goal.norms_into-requires
norms_into-requires c =
    let p = c.requires.0 in
    record { low = search rules; high = search rules; short = search rules; few = p.few; paired = p.paired; inside = p.inside; sound = p.sound }

pub slice_bounds-first_rows-end : goal.slice_bounds-first_rows-end
slice_bounds-first_rows-end c = sym (length-take-le _ _ (omega arith))

pub slice_bounds-first-end-2 : goal.slice_bounds-first-end-2
slice_bounds-first-end-2 c = pushed_fits c.first_rows-k.ensures _

pub slice_bounds-block_first-end : goal.slice_bounds-block_first-end
slice_bounds-block_first-end c = pushed_long c.first_rows-k.ensures _

pub block_first-requires : goal.block_first-requires
block_first-requires c =
    let a = c.args in
    let p = c.requires in
    let r = length a.blocked.now in
    let e = entry_of a.matrix.now a.bits.now a.n a.cols.now a.scale.now in
    let l = length a.cols.now in
    let lb = c.fill.auto.a in
    let ln = normed_long e l r (r + r + r - (r + r)) (r - 0) (l / 4) c.first_rows-k.result a.numbers.now
    c.norms_into.new.acc _ c.first_rows-k.new.buf [] (omega arith) (omega arith) refl
    (omega (arith, p.2)) (omega (arith, p.0.few)) c.norms_into.ensures c.first_rows-k.ensures in record {
      chosen = (rw lb p.0, p.1, rw lb (omega (arith, ln, p.2)), c.fill.ensures ∙ ap (repeated 0) (sym lb));
      by_index = rw lb (first-rows-below e l r (r + r + r - (r + r)) (r - 0) (l / 4) c.first_rows-k.result a.numbers.now
          c.norms_into.new.acc _ c.first_rows-k.new.buf _ (omega arith) (omega arith) refl
          (omega (arith, p.2)) (omega (arith, p.0.few)) c.norms_into.ensures
          c.first_rows-k.ensures);
    }

pub returns : goal.returns
returns c =
    let a = c.args in
    let p = c.requires in
    let r = length a.blocked.now in
    let e = entry_of a.matrix.now a.bits.now a.n a.cols.now a.scale.now in
    let l = length a.cols.now in
    begun_is e l r (r + r + r - (r + r)) (r - 0) (l / 4) c.first_rows-k.result a.numbers.now
    c.norms_into.new.acc _ c.first_rows-k.new.buf _ (omega arith) (omega arith) refl
    (omega (arith, p.2)) (omega (arith, p.0.few)) c.norms_into.ensures c.first_rows-k.ensures
    c.block_first.result c.block_first.new.numbers c.block_first.new.blocked
    (rw c.fill.auto.a at c.block_first.ensures)
