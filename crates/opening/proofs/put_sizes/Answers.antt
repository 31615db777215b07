-- `opening::put_sizes` meets its contract: three pieces side by side.
use Rattle.fields.proofs.Widths.{width_most}
use Rattle.fields.proofs.Puts.{length-tabbed}
use Rattle.opening.proofs.Laid.{sizes_wrote}
use native.Mathlib.Omega.{arith}
use Rattle.opening.proofs.put_sizes.Goals as goal

pub put_tabbed-b-requires : goal.put_tabbed-b-requires
put_tabbed-b-requires c =
    omega (arith, width_most c.args.m, c.put_word-a.ensures.ends)

pub put_tabbed-requires : goal.put_tabbed-requires
put_tabbed-requires c =
    omega (
      arith,
      length-tabbed c.args.m,
      width_most c.args.m,
      width_most c.args.n,
      c.put_word-a.ensures.ends,
      c.put_tabbed-b.ensures.ends,
      c.put_word-a.auto.out,
      c.put_tabbed-b.auto.out,
      c.requires,
    )

pub returns : goal.returns
returns c =
    sizes_wrote c.args.m c.args.n c.requires c.put_word-a.auto.out c.put_word-a.ensures
    c.put_tabbed-b.ensures c.put_tabbed.ensures
