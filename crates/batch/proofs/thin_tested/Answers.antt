-- `batch::thin_tested` meets its contract: a fault of the whole call is refused, and else the scratch is wiped and every item thinned.
use mathlib.Core.Path.{ap, ◌∙◌}
use Rattle.refusal.specs.Refusals.{number_in}
use Rattle.refusal.proofs.Reasons.{numbered}
use Rattle.items.specs.Items.{listed}
use Rattle.items.specs.Lent.{lent_as}
use Rattle.items.proofs.Closing.{all_refused, wiped, all_done}
use Rattle.batch.proofs.thin_tested.Goals as goal

pub returns-in-Err : goal.returns-in-Err
returns-in-Err c =
    let a = c.args in
    rw c.in-Err.is
    (all_refused (lent_as a.matrix.now a.bits.now a.m a.n) a.m a.n a.items
    (listed a.weights.now a.seeds.now a.editions.now a.rules.now a.allowances.now a.limits.now)
    a.output.now a.numbers.now a.indices.now (λ z. numbered _ z)
    (c.no_answers.ensures.0 ∙ c.number.ensures) c.no_answers.ensures.1)

pub thin_items-requires : goal.thin_items-requires
thin_items-requires c =
    let a = c.args in
    let w = wiped (lent_as a.matrix.now a.bits.now a.m a.n) a.m a.n a.items
    (listed a.weights.now a.seeds.now a.editions.now a.rules.now a.allowances.now a.limits.now)
    a.output.now a.numbers.now a.indices.now
    c.fill.ensures c.fill-in-Ok.ensures (c.requires.fine (ap number_in c.in-Ok.is)) in
    (c.requires.lent (ap number_in c.in-Ok.is), w.0, w.1)

pub returns-in-Ok : goal.returns-in-Ok
returns-in-Ok c =
    let a = c.args in
    all_done (lent_as a.matrix.now a.bits.now a.m a.n) a.m a.n a.items
    (listed a.weights.now a.seeds.now a.editions.now a.rules.now a.allowances.now a.limits.now)
    a.output.now a.numbers.now a.indices.now
    c.fill.ensures c.fill-in-Ok.ensures (ap number_in c.in-Ok.is) c.thin_items.ensures
