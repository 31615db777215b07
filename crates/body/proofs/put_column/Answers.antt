-- `body::put_column` meets its contract: four pieces side by side.
use Rattle.fields.proofs.Widths.{length-bits}
use Rattle.form.proofs.OfForm.{length_entries}
use Rattle.body.proofs.Loops.{column_wrote}
use mathlib.Core.Path.{◌∙◌}
use native.Mathlib.Omega.{arith}
use lib.ListN.{length, get_or}
use Rattle.body.proofs.put_column.Goals as goal

pub put_bits-b-requires : goal.put_bits-b-requires
put_bits-b-requires c = omega (arith, c.put_word-a.ensures.ends)

pub put_entries-c-requires : goal.put_entries-c-requires
put_entries-c-requires c =
    omega (
      arith,
      length-bits c.args.weight,
      c.put_word-a.ensures.ends,
      c.put_bits-b.ensures.ends,
      c.put_word-a.auto.out,
      c.put_bits-b.auto.out,
      c.requires,
    )

pub put_word-requires : goal.put_word-requires
put_word-requires c =
    omega (
      arith,
      length-bits c.args.weight,
      length_entries (λ i. get_or c.args.entries.now i 0) (length c.args.entries.now),
      c.put_word-a.ensures.ends,
      c.put_bits-b.ensures.ends,
      c.put_entries-c.ensures.ends,
      c.put_word-a.auto.out,
      c.put_bits-b.auto.out,
      c.put_entries-c.auto.out,
      c.requires,
    )

pub returns : goal.returns
returns c =
    let entries = c.args.entries.now in
    column_wrote (length entries) c.args.weight (λ i. get_or entries i 0) c.requires c.put_word-a.auto.out
    (c.put_bits-b.auto.out ∙ c.put_word-a.auto.out) c.put_word-a.ensures c.put_bits-b.ensures
    c.put_entries-c.ensures c.put_word.ensures
