-- `opening::put_target` meets its contract: two pieces side by side.
use Rattle.fields.proofs.Widths.{width_most}
use Rattle.fields.proofs.Puts.{on_two}
use native.Mathlib.Omega.{arith}
use Rattle.opening.proofs.put_target.Goals as goal

pub put_count-requires : goal.put_count-requires
put_count-requires c =
    omega (arith, width_most c.args.limit, c.put_word-a.ensures.ends)

pub returns : goal.returns
returns c =
    on_two c.put_word-a.ensures c.put_count.ensures (omega (arith, c.requires))
