-- `putting::put_tabbed` meets its contract: two pieces side by side.
use Rattle.fields.proofs.Widths.{length-count}
use Rattle.fields.proofs.Puts.{on_two}
use native.Mathlib.Omega.{arith}
use Rattle.putting.proofs.put_tabbed.Goals as goal

pub put_word-requires : goal.put_word-requires
put_word-requires c =
    omega (arith, length-count c.args.x, c.put_count-a.ensures.ends)

pub returns : goal.returns
returns c =
    on_two c.put_count-a.ensures c.put_word.ensures (omega (arith, length-count c.args.x))
