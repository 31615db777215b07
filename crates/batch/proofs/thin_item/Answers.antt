-- `batch::thin_item` meets its contract: with sizes and a matrix that have no fault, the single call's number is that of the rule and the weights.
use mathlib.Core.Path.{sym, ◌∙◌}
use native.Mathlib.Omega.{arith}
use lib.Seq.{length-take-le}
use Rattle.refusal.proofs.Reasons.{given}
use Rattle.answers.proofs.Finishing.{thinned_refused}
use Rattle.items.specs.Lent.{lent_as}
use Rattle.items.proofs.Lending.{item_number, granted, item_thinned}
use Rattle.batch.proofs.thin_item.Goals as goal

pub returns-in-Err : goal.returns-in-Err
returns-in-Err c =
    let a = c.args in
    let p = c.requires in
    thinned_refused a.rule a.source (lent_as a.matrix.now a.bits.now a.m a.n) a.m a.n a.weights.now a.output.now
    a.numbers.now a.indices.now _ c.refused.result
    (c.number.ensures ∙ c.in-Err.ensures
    ∙ sym (item_number a.rule a.source a.matrix.now a.bits.now a.m a.n a.weights.now a.output.now a.numbers.now
    a.indices.now p.0 p.1 p.2))
    (given _ _ c.number.ensures) c.refused.ensures

pub slice_bounds-start-end : goal.slice_bounds-start-end
slice_bounds-start-end c =
    let a = c.args in
    let p = c.requires in
    let g = granted a.rule a.source a.matrix.now a.bits.now a.m a.n a.weights.now a.output.now a.numbers.now a.indices.now
    p.0 p.1 p.2 (sym c.in_default.ensures) in
    omega (arith, g.few)

pub slice_bounds-thin_sound-end : goal.slice_bounds-thin_sound-end
slice_bounds-thin_sound-end c =
    let a = c.args in
    let p = c.requires in
    let g = granted a.rule a.source a.matrix.now a.bits.now a.m a.n a.weights.now a.output.now a.numbers.now a.indices.now
    p.0 p.1 p.2 (sym c.in_default.ensures) in
    sym (length-take-le _ _ (omega (arith, g.few)))

pub thin_sound-requires : goal.thin_sound-requires
thin_sound-requires c =
    let a = c.args in
    let p = c.requires in
    let g = granted a.rule a.source a.matrix.now a.bits.now a.m a.n a.weights.now a.output.now a.numbers.now a.indices.now
    p.0 p.1 p.2 (sym c.in_default.ensures) in
    (g.ready, g.valued, length-take-le _ _ (omega (arith, g.few)) ∙ sym g.given, g.left ∙ sym g.given, g.ruled)

pub returns : goal.returns
returns c =
    let a = c.args in
    let p = c.requires in
    item_thinned a.rule a.source a.matrix.now a.bits.now a.m a.n a.weights.now a.output.now a.numbers.now a.indices.now
    p.0 p.1 p.2 (sym c.in_default.ensures) c.thin_sound.ensures
