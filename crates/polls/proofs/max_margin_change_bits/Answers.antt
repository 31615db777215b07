-- `polls::max_margin_change_bits` meets its contract: what is not refused has the sizes that the change asks for.
use Rattle.refusal.proofs.Reasons.{given}
use Rattle.pollfaults.proofs.Refusals.{poll_asked, change_refused, change-sizes, change_taken}
use mathlib.Core.Path.{◌∙◌}
use Rattle.polls.proofs.max_margin_change_bits.Goals as goal

pub returns-in-Err : goal.returns-in-Err
returns-in-Err c = change_refused _ _ _ _ _ _ (c.number.ensures ∙ c.in-Err.ensures) (given _ _ c.number.ensures)

pub change_of-requires : goal.change_of-requires
change_of-requires c = poll_asked _ _ _ _ _ (change-sizes _ _ _ _ _ c.in_default.ensures)

pub returns : goal.returns
returns c = change_taken _ _ _ _ _ c.in_default.ensures c.change_of.result c.change_of.ensures
