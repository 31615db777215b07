-- `wordlines::put_line` meets its contract: three pieces side by side.
use Rattle.wordlines.proofs.Listing.{word_wrote}
use Rattle.fields.proofs.Widths.{width_most}
use Rattle.fields.proofs.Puts.{length-tabbed}
use Prim.Native.Nat.{◌-◌}
use native.Mathlib.Omega.{arith}
use Rattle.wordlines.proofs.put_line.Goals as goal

pub put_tabbed-b-requires : goal.put_tabbed-b-requires
put_tabbed-b-requires c =
    omega (arith, width_most c.args.row, c.put_word-a.ensures.ends)

pub put_last-requires : goal.put_last-requires
put_last-requires c =
    omega (
      arith,
      length-tabbed c.args.row,
      width_most c.args.row,
      c.put_word-a.ensures.ends,
      c.put_tabbed-b.ensures.ends,
      c.put_word-a.auto.out,
      c.put_tabbed-b.auto.out,
      c.requires,
    )

pub returns : goal.returns
returns c =
    word_wrote c.args.row c.args.change c.args.at c.args.out.now
    c.put_word-a.result c.put_word-a.new.out c.put_tabbed-b.result
    c.put_tabbed-b.new.out c.put_last.result c.put_last.new.out c.requires
    c.put_word-a.auto.out c.put_word-a.ensures c.put_tabbed-b.ensures
    c.put_last.ensures
