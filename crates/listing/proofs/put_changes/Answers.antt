-- `listing::put_changes` meets its contract: the fronts of the lists hold the rows and their changes, and a refused list has no lines.
use lib.ListN.{replicate}
use lib.Seq.{length-take-le}
use Rattle.seq.specs.Sums.{plus_zero}
use Rattle.wordlines.proofs.Listing.{words_none, words_some, back_there, back_whole, back_read}
use Prim.Native.Nat.{◌-◌}
use mathlib.Core.Path.{sym, ◌∙◌}
use native.Mathlib.Omega.{arith}
use Rattle.listing.proofs.put_changes.Reads as reads
use Rattle.listing.proofs.put_changes.Lts as lts
use Rattle.moving.proofs.moved.Reads as moved-reads
use Rattle.wordlines.proofs.put_lines.Reads as put-lines-reads
use Rattle.listing.proofs.put_changes.Goals as goal

pub slice_bounds-moved-end : goal.slice_bounds-moved-end
slice_bounds-moved-end c = sym (length-take-le _ _ (omega (arith, c.requires.0)))

pub slice_bounds-moved-end-2 : goal.slice_bounds-moved-end-2
slice_bounds-moved-end-2 c = sym (length-take-le _ _ (omega (arith, c.requires.0)))

pub returns-then-number-ne0 : goal.returns-then-number-ne0
returns-then-number-ne0 c =
    words_none c.moved-number.ensures (length-take-le _ _ (omega (arith, c.requires.0)))
    (length-take-le _ _ (omega (arith, c.requires.0))) c.args.at
    c.args.out.now c.if-number-ne0.true

pub slice_bounds-rows-end-2 : goal.slice_bounds-rows-end-2
slice_bounds-rows-end-2 c =
    back_there _ c.moved-number.new.rows _ c.moved-number.auto.rows (omega (arith, c.requires.0))

pub slice_bounds-put_lines-end : goal.slice_bounds-put_lines-end
slice_bounds-put_lines-end c =
    back_whole _ c.moved-number.new.rows _ c.moved-number.auto.rows (omega (arith, c.requires.0))

pub slice_bounds-changes-end-2 : goal.slice_bounds-changes-end-2
slice_bounds-changes-end-2 c =
    back_there _ c.moved-number.new.changes _ c.moved-number.auto.changes (omega (arith, c.requires.0))

pub slice_bounds-put_lines-end-2 : goal.slice_bounds-put_lines-end-2
slice_bounds-put_lines-end-2 c =
    back_whole _ c.moved-number.new.changes _ c.moved-number.auto.changes (omega (arith, c.requires.0))

pub put_lines-requires : goal.put_lines-requires
put_lines-requires c =
    let rows_whole = back_whole c.args.n c.moved-number.new.rows (replicate 64 0)
    c.moved-number.auto.rows (omega (arith, c.requires.0)) in
    let changes-whole = back_whole c.args.n c.moved-number.new.changes (replicate 64 plus_zero)
    c.moved-number.auto.changes (omega (arith, c.requires.0)) in
    (omega (arith, rows_whole, c.requires.0, c.requires.1), omega (arith, rows_whole, c.requires.0), sym changes-whole ∙ rows_whole)

pub returns : goal.returns
returns c =
    words_some c.moved-number.ensures (length-take-le _ _ (omega (arith, c.requires.0)))
    (length-take-le _ _ (omega (arith, c.requires.0))) _ _ c.if-number-ne0.false
    (back_read c.args.n c.moved-number.new.rows (replicate 64 0)
    c.moved-number.auto.rows (omega (arith, c.requires.0)))
    (back_read c.args.n c.moved-number.new.changes (replicate 64 plus_zero)
    c.moved-number.auto.changes (omega (arith, c.requires.0)))
    (sym (back_whole c.args.n c.moved-number.new.rows (replicate 64 0)
    c.moved-number.auto.rows (omega (arith, c.requires.0))))
    c.put_lines.ensures
