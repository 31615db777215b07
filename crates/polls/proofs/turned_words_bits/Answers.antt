-- `polls::turned_words_bits` meets its contract: what is not refused has the sizes that the count asks for.
use Rattle.refusal.proofs.Reasons.{given}
use Rattle.pollfaults.proofs.Refusals.{poll_asked, turned-sizes, turned_refused, turned_taken}
use mathlib.Core.Path.{sym, ◌∙◌}
use Rattle.polls.proofs.turned_words_bits.Goals as goal

pub returns-in-Err : goal.returns-in-Err
returns-in-Err c = turned_refused _ _ _ _ _ _ _ (c.number.ensures ∙ c.in-Err.ensures) (given _ _ c.number.ensures)

pub turned_of-requires : goal.turned_of-requires
turned_of-requires c =
    let a = c.args in
    let s = turned-sizes a.bits.now a.m a.n a.before.now a.after.now a.thresholds.now (sym c.in_default.ensures) in
    (poll_asked _ _ _ _ _ s.0, s.1)

pub returns : goal.returns
returns c = turned_taken _ _ _ _ _ _ c.in_default.ensures c.turned_of.result c.turned_of.ensures
