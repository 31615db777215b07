-- `keeping::put_front` meets its contract: by whether the first line is good and a column is left.
use borrow.Author.Tests.{not-false}
use lib.Seq.{length-take-le}
use mathlib.Core.Path.{sym}
use native.Mathlib.Omega.{arith}
use Rattle.keeping.proofs.put_front.Goals as goal

pub slice_bounds-put_good-end : goal.slice_bounds-put_good-end
slice_bounds-put_good-end c = sym (length-take-le _ _ c.requires.1)

pub put_good-requires : goal.put_good-requires
put_good-requires c =
    let s = c.args.s in
    let room = c.args.room.now in
    let p = c.requires in
    (p.3.opened (not-false _ c.if-not-s.false), omega (arith, length-take-le s.end room p.1, p.0, p.2))
