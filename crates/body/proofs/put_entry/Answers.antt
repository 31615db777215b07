-- `body::put_entry` meets its contract: two pieces side by side.
use Rattle.fields.proofs.Puts.{on_two}
use native.Mathlib.Omega.{arith}
use Rattle.body.proofs.put_entry.Goals as goal

pub put_bits-requires : goal.put_bits-requires
put_bits-requires c = omega (arith, c.put_word-a.ensures.ends)

pub returns : goal.returns
returns c =
    on_two c.put_word-a.ensures c.put_bits.ensures (omega (arith, c.requires))
