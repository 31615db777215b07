-- `voting::thin_votes` meets its contract: a fault before the values is refused; else the confidences are thinned, and what is left is packed.
use mathlib.Core.Path.{sym, ◌∙◌}
use native.Mathlib.Omega.{arith}
use lib.Seq.{length-take-le}
use Rattle.refusal.proofs.Reasons.{given}
use Rattle.votefaults.proofs.Outcomes.{called, votes_refused, values_refused, votes_packed, front_again, front_room}
use Rattle.voting.proofs.thin_votes.Goals as goal

pub returns-in-Err : goal.returns-in-Err
returns-in-Err c =
    votes_refused _ _ _ _ _ _ _ _ _ _ _ _ c.refused.result (c.number.ensures ∙ c.in-Err.ensures) (given _ _ c.number.ensures) c.refused.ensures

pub slice_bounds-output-end : goal.slice_bounds-output-end
slice_bounds-output-end c =
    let s = called _ _ _ _ _ _ _ _ _ _ _ (sym c.in_default.ensures) in
    omega (arith, s.sized.few)

pub slice_bounds-thin-end : goal.slice_bounds-thin-end
slice_bounds-thin-end c =
    let s = called _ _ _ _ _ _ _ _ _ _ _ (sym c.in_default.ensures) in
    sym (length-take-le _ _ (omega (arith, s.sized.few)))

pub returns-then-answer-ne0 : goal.returns-then-answer-ne0
returns-then-answer-ne0 c =
    let none = sym c.in_default.ensures in
    let s = called _ _ _ _ _ _ _ _ _ _ _ none in
    values_refused _ _ c.args.confidences.now _ _ _ _ _ _ _ _ none (λ k l. c.type_inv.confidences k)
    (length-take-le _ _ s.sized.few) c.thin-answer.ensures c.if-answer-ne0.true

pub slice_bounds-output-end-2 : goal.slice_bounds-output-end-2
slice_bounds-output-end-2 c =
    let s = called _ _ _ _ _ _ _ _ _ _ _ (sym c.in_default.ensures) in
    front_room _ _ c.thin-answer.new.output s.sized.few c.thin-answer.auto.output

pub slice_bounds-pack-end : goal.slice_bounds-pack-end
slice_bounds-pack-end c =
    let s = called _ _ _ _ _ _ _ _ _ _ _ (sym c.in_default.ensures) in
    sym (length-take-le _ _ (front_room _ _ c.thin-answer.new.output s.sized.few c.thin-answer.auto.output))

pub pack-requires : goal.pack-requires
pack-requires c =
    let s = called _ _ _ _ _ _ _ _ _ _ _ (sym c.in_default.ensures) in
    let long = length-take-le _ _ (front_room _ _ c.thin-answer.new.output s.sized.few c.thin-answer.auto.output) in
    (s.sized.left ∙ sym long, s.room ∙ sym long, omega (arith, long, s.sized.few))

pub returns : goal.returns
returns c =
    let none = sym c.in_default.ensures in
    let s = called _ _ _ _ _ _ _ _ _ _ _ none in
    votes_packed _ _ c.args.confidences.now _ _ _ _ _ _ _ _ none (λ k l. c.type_inv.confidences k)
    (length-take-le _ _ s.sized.few) c.thin-answer.ensures c.if-answer-ne0.false
    (rw (front_again _ _ c.thin-answer.new.output s.sized.few c.thin-answer.auto.output) at c.pack.ensures)
