-- `salvaging::lost_long` meets its contract: by whether the line is kept.
use Rattle.fields.proofs.Widths.{width_most}
use Rattle.keeping.proofs.Losses.{lost_length, kept-length}
use native.Mathlib.Omega.{arith}
use Rattle.salvaging.proofs.lost_long.Goals as goal

pub returns-then-kept : goal.returns-then-kept
returns-then-kept c = kept-length _ _ c.if-kept.true

pub overflow_add-result : goal.overflow_add-result
overflow_add-result c = omega (arith, width_most c.args.number, c.width_of.ensures)

pub returns : goal.returns
returns c =
    omega (arith, c.width_of.ensures, lost_length c.args.kept c.args.number c.if-kept.false)
