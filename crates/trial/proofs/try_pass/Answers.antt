-- `trial::try_pass` meets its contract: each way out is one of the laws of Trying.
use mathlib.Core.Bool.{not}
use Rattle.limits.specs.Reading.{read_of}
use Rattle.halved.proofs.Calls.{ready_still}
use Rattle.tried.proofs.Trying.{lent_of, left_tried, taken_tried}
use mathlib.Core.Path.{refl, sym, ap, ◌∙◌}
use lib.ListN.{length}
use Rattle.trial.proofs.try_pass.Goals as goal

pub halving_pass-after-requires : goal.halving_pass-after-requires
halving_pass-after-requires c =
    (ready_still c.requires.0 (ap length c.copy.ensures) refl refl, rw c.copy.ensures c.requires.3, c.requires.4)

pub change_of-change-requires : goal.change_of-change-requires
change_of-change-requires c = (
  lent_of c.args.start.now c.requires.0 c.requires.1,
  c.halving_pass-after.auto.w ∙ ap length c.copy.ensures ∙ sym c.requires.1,
)

pub returns-then-ends_there : goal.returns-then-ends_there
returns-then-ends_there c =
    let a = c.args in
    left_tried (read_of a.matrix.now a.bits.now a.n) a.n a.start.now a.allowance a.cap a.w.now a.tally
    c.copy.ensures c.halving_pass-after.ensures c.change_of-change.ensures
    (sym c.ends_there.ensures ∙ c.if-ends_there.true) _ refl refl refl

pub copy-requires-2 : goal.copy-requires-2
copy-requires-2 c =
    sym (c.halving_pass-after.auto.w ∙ ap length c.copy.ensures)

pub returns-then-ends_there-2 : goal.returns-then-ends_there-2
returns-then-ends_there-2 c =
    let a = c.args in
    taken_tried (read_of a.matrix.now a.bits.now a.n) a.n a.start.now a.allowance a.cap a.w.now a.tally
    c.copy.ensures c.halving_pass-after.ensures c.change_of-change.ensures
    (sym c.ends_there.ensures ∙ c.if-ends_there.false) _ c.copy-2.ensures _ refl refl refl
    (sym (ap not (sym c.ends_there-2.ensures ∙ c.if-ends_there-2.true)))

pub returns-else-ends_there-2 : goal.returns-else-ends_there-2
returns-else-ends_there-2 c =
    let a = c.args in
    taken_tried (read_of a.matrix.now a.bits.now a.n) a.n a.start.now a.allowance a.cap a.w.now a.tally
    c.copy.ensures c.halving_pass-after.ensures c.change_of-change.ensures
    (sym c.ends_there.ensures ∙ c.if-ends_there.false) _ c.copy-2.ensures _ refl refl refl
    (sym (ap not (sym c.ends_there-2.ensures ∙ c.if-ends_there-2.false)))
