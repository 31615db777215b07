-- `answering::put_ok` meets its contract: four pieces, one after the other from the front.
use Rattle.answering.proofs.Lines.{ok_wrote}
use Rattle.fields.proofs.Widths.{width_most}
use Rattle.fields.proofs.Puts.{length-tabbed}
use Prim.Native.Nat.{◌-◌}
use mathlib.Core.Path.{◌∙◌}
use native.Mathlib.Omega.{arith}
use Rattle.answering.proofs.put_ok.Goals as goal

pub put_tabbed-b-requires : goal.put_tabbed-b-requires
put_tabbed-b-requires c =
    omega (arith, width_most c.args.r.stage, c.put_word-a.ensures.ends)

pub put_tabbed-c-requires : goal.put_tabbed-c-requires
put_tabbed-c-requires c =
    omega (
      arith,
      length-tabbed c.args.r.stage,
      width_most c.args.r.stage,
      width_most c.args.r.nonzeros,
      c.put_word-a.ensures.ends,
      c.put_tabbed-b.ensures.ends,
    )

pub put_last-requires : goal.put_last-requires
put_last-requires c =
    omega (
      arith,
      length-tabbed c.args.r.stage,
      width_most c.args.r.stage,
      length-tabbed c.args.r.nonzeros,
      width_most c.args.r.nonzeros,
      c.put_word-a.ensures.ends,
      c.put_tabbed-b.ensures.ends,
      c.put_tabbed-c.ensures.ends,
      c.put_word-a.auto.out,
      c.put_tabbed-b.auto.out,
      c.put_tabbed-c.auto.out,
      c.requires,
    )

pub returns : goal.returns
returns c =
    ok_wrote c.args.r c.args.out.now c.put_word-a.result c.put_word-a.new.out
    c.put_tabbed-b.result c.put_tabbed-b.new.out c.put_tabbed-c.result
    c.put_tabbed-c.new.out c.put_last.result c.put_last.new.out c.requires
    c.put_word-a.auto.out (c.put_tabbed-b.auto.out ∙ c.put_word-a.auto.out)
    c.put_word-a.ensures c.put_tabbed-b.ensures c.put_tabbed-c.ensures
    c.put_last.ensures
