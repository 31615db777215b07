-- `margins::max_margin_change` meets its contract: what is not refused has the sizes that the change asks for.
use mathlib.Core.Path.{◌∙◌}
use Rattle.refusal.proofs.Reasons.{given}
use Rattle.margins.proofs.Refusals.{taken-sizes, change_refused, change_taken}
use Rattle.margins.proofs.max_margin_change.Goals as goal

pub returns-in-Err : goal.returns-in-Err
returns-in-Err c = change_refused _ _ _ _ _ _ (c.number.ensures ∙ c.in-Err.ensures) (given _ _ c.number.ensures)

pub change_of-requires : goal.change_of-requires
change_of-requires c = (taken-sizes _ _ _ _ _ (c.in_default.ensures)).0

pub returns : goal.returns
returns c =
    let fine = c.in_default.ensures in
    change_taken _ _ _ _ _ fine c.change_of.result c.change_of.ensures (taken-sizes _ _ _ _ _ fine).1
