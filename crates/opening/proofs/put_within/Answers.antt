-- `opening::put_within` meets its contract: four pieces side by side.
use Rattle.fields.proofs.Widths.{length-bits}
use Rattle.opening.proofs.Laid.{within_wrote}
use Rattle.opening.specs.Wishes.{cap_for}
use mathlib.Core.Path.{◌∙◌}
use native.Mathlib.Omega.{arith}
use Rattle.opening.proofs.put_within.Goals as goal

pub put_bits-b-requires : goal.put_bits-b-requires
put_bits-b-requires c =
    omega (arith, c.put_word-a.ensures.ends)

pub put_word-c-requires : goal.put_word-c-requires
put_word-c-requires c =
    omega (
      arith,
      length-bits c.args.allowance,
      c.put_word-a.ensures.ends,
      c.put_bits-b.ensures.ends,
      c.put_word-a.auto.out,
      c.put_bits-b.auto.out,
      c.requires,
    )

pub put_cap-requires : goal.put_cap-requires
put_cap-requires c =
    omega (
      arith,
      length-bits c.args.allowance,
      c.put_word-a.ensures.ends,
      c.put_bits-b.ensures.ends,
      c.put_word-c.ensures.ends,
      c.put_word-a.auto.out,
      c.put_bits-b.auto.out,
      c.put_word-c.auto.out,
      c.requires,
    )

pub returns : goal.returns
returns c =
    within_wrote c.args.allowance (cap_for c.args.rule c.args.limit) c.requires
    c.put_word-a.auto.out (c.put_bits-b.auto.out ∙ c.put_word-a.auto.out) c.put_word-a.ensures
    c.put_bits-b.ensures c.put_word-c.ensures c.put_cap.ensures
