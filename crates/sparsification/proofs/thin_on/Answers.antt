-- `sparsification::thin_on` meets its contract: the stages are followed from a copy of the weights in the output, and the scratch is wiped.
use mathlib.Core.Path.{refl, sym, ap, ◌∙◌}
use native.Mathlib.Omega.{arith}
use lib.ListN.{length}
use Rattle.seq.specs.Lists.{repeated}
use Rattle.seq.specs.Sums.{plus_zero}
use Rattle.limits.specs.Reading.{read_of}
use Rattle.halved.proofs.Calls.{ready_still}
use Rattle.answers.proofs.Finishing.{done-from}
use Rattle.sparsification.proofs.thin_on.Goals as goal

pub follow-path-requires : goal.follow-path-requires
follow-path-requires c =
    let given = c.requires in
    let copied = c.copy.ensures in (
      ready_still given.0 (ap length copied) refl refl,
      rw copied given.1,
      copied,
      given.2 ∙ sym (ap length copied),
      given.4,
    )

pub answer_for-requires : goal.answer_for-requires
answer_for-requires c =
    let path = c.follow-path.ensures.path in
    omega (arith, path.near, path.stage)

pub returns : goal.returns
returns c =
    let a = c.args in
    let k = c.follow-path.auto in
    done-from (read_of a.matrix.now a.bits.now a.n) a.n a.start.now a.source a.rule c.copy.ensures c.follow-path.ensures
    a.numbers.now _ a.indices.now _ c.answer_for.result c.answer_for.ensures
    (c.fill.ensures ∙ ap (repeated plus_zero) k.numbers)
    (c.fill-2.ensures ∙ ap (repeated 0) k.indices)
