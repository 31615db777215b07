-- `margins::turned_words` meets its contract: what is not refused has the sizes that the count asks for.
use mathlib.Core.Path.{◌∙◌}
use Rattle.refusal.proofs.Reasons.{given}
use Rattle.margins.proofs.Refusals.{taken-sizes, turned_refused, turned_taken, neither_refused, thresholds_fit}
use Rattle.margins.proofs.turned_words.Goals as goal

pub returns-in-Err : goal.returns-in-Err
returns-in-Err c = turned_refused _ _ _ _ _ _ _ (c.number.ensures ∙ c.in-Err.ensures) (given _ _ c.number.ensures)

pub turned_of-requires : goal.turned_of-requires
turned_of-requires c =
    let fine = neither_refused _ _ _ _ _ _ (c.in_default.ensures) in
    ((taken-sizes _ _ _ _ _ fine.0).0, thresholds_fit _ _ fine.1)

pub returns : goal.returns
returns c =
    let fine = c.in_default.ensures in
    turned_taken _ _ _ _ _ _ fine c.turned_of.result c.turned_of.ensures
    (taken-sizes _ _ _ _ _ (neither_refused _ _ _ _ _ _ fine).0).1
