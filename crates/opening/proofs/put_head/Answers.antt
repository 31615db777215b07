-- `opening::put_head` meets its contract: five pieces, one after the other from the front.
use Rattle.fields.proofs.Widths.{length-bits}
use Rattle.opening.specs.Wishes.{wish_for}
use Rattle.opening.proofs.Laid.{length-sizes, length_wish, head_wrote}
use mathlib.Core.Path.{◌∙◌}
use native.Mathlib.Omega.{arith}
use Rattle.opening.proofs.put_head.Goals as goal

pub put_bits-b-requires : goal.put_bits-b-requires
put_bits-b-requires c =
    omega (arith, length-sizes c.args.m c.args.n, c.put_sizes-a.ensures.ends)

pub put_word-c-requires : goal.put_word-c-requires
put_word-c-requires c =
    omega (
      arith,
      length-sizes c.args.m c.args.n,
      length-bits c.args.seed,
      c.put_sizes-a.ensures.ends,
      c.put_bits-b.ensures.ends,
      c.put_sizes-a.auto.out,
      c.put_bits-b.auto.out,
      c.requires,
    )

pub put_wish-d-requires : goal.put_wish-d-requires
put_wish-d-requires c =
    omega (
      arith,
      length-sizes c.args.m c.args.n,
      length-bits c.args.seed,
      c.put_sizes-a.ensures.ends,
      c.put_bits-b.ensures.ends,
      c.put_word-c.ensures.ends,
      c.put_sizes-a.auto.out,
      c.put_bits-b.auto.out,
      c.put_word-c.auto.out,
      c.requires,
    )

pub put_edition-requires : goal.put_edition-requires
put_edition-requires c =
    omega (
      arith,
      length-sizes c.args.m c.args.n,
      length-bits c.args.seed,
      length_wish (wish_for c.args.rule c.args.allowance c.args.limit),
      c.put_sizes-a.ensures.ends,
      c.put_bits-b.ensures.ends,
      c.put_word-c.ensures.ends,
      c.put_wish-d.ensures.ends,
      c.put_sizes-a.auto.out,
      c.put_bits-b.auto.out,
      c.put_word-c.auto.out,
      c.put_wish-d.auto.out,
      c.requires,
    )

pub returns : goal.returns
returns c =
    let one = c.put_sizes-a.auto.out in
    let two = c.put_bits-b.auto.out ∙ one in
    head_wrote c.args.m c.args.n c.args.seed
    (wish_for c.args.rule c.args.allowance c.args.limit) c.args.edition c.requires one two
    (c.put_word-c.auto.out ∙ two) c.put_sizes-a.ensures c.put_bits-b.ensures
    c.put_word-c.ensures c.put_wish-d.ensures c.put_edition.ensures
