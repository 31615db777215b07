-- `answering::put_last` meets its contract: two pieces side by side.
use Rattle.answering.proofs.Lines.{last_wrote}
use Rattle.fields.proofs.Widths.{length-bits}
use native.Mathlib.Omega.{arith}
use Prim.Native.Nat.{◌-◌}
use Rattle.answering.proofs.put_last.Goals as goal

pub put_word-requires : goal.put_word-requires
put_word-requires c =
    omega (arith, length-bits c.pattern.result, c.put_bits-a.ensures.ends)

pub returns : goal.returns
returns c =
    last_wrote c.args.x c.pattern.result c.requires c.pattern.ensures
    c.put_bits-a.ensures c.put_word.ensures
