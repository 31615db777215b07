-- `putting::put_note` meets its contract: three pieces, one after the other.
use Rattle.fields.proofs.Widths.{length-count}
use Rattle.fields.proofs.Puts.{note_wrote}
use native.Mathlib.Omega.{arith}
use Rattle.putting.proofs.put_note.Goals as goal

pub put_count-b-requires : goal.put_count-b-requires
put_count-b-requires c =
    omega (arith, c.put_word-a.ensures.ends)

pub put_word-requires : goal.put_word-requires
put_word-requires c =
    omega (arith, length-count c.args.number, c.put_word-a.ensures.ends, c.put_count-b.ensures.ends)

pub returns : goal.returns
returns c =
    note_wrote c.args.number c.requires c.put_word-a.auto.out c.put_word-a.ensures c.put_count-b.ensures
    c.put_word.ensures
