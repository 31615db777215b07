-- `sparsification::thin_sound` meets its contract: the copy of sound weights is normalized, and the local array has room for them.
use mathlib.Core.Path.{refl, sym, ap, ◌∙◌}
use native.Mathlib.Omega.{arith}
use lib.ListN.{length}
use lib.Seq.{length-take-le}
use Rattle.seq.specs.Sums.{plus_zero}
use Rattle.weights.specs.Weights.{normalized}
use Rattle.halved.proofs.Calls.{ready_still}
use Rattle.stages.proofs.Lengths.{length-normalized}
use Rattle.stages.proofs.Passing.{normal_start}
use Rattle.answers.proofs.Accepting.{values_good}
use Rattle.answers.proofs.Finishing.{start-bounded}
use Rattle.sparsification.proofs.thin_sound.Goals as goal

pub slice_bounds-thin_on-end : goal.slice_bounds-thin_on-end
slice_bounds-thin_on-end c =
    sym (length-take-le _ _ (omega (arith, c.requires.0.few)))

pub thin_on-requires : goal.thin_on-requires
thin_on-requires c =
    let given = c.requires in
    let w = c.args.weights.now in
    let normal = c.normalize.ensures ∙ ap (normalized plus_zero) c.copy.ensures in
    let long = ap length normal ∙ length-normalized plus_zero w in
    let v = values_good c.args.matrix.now w given.1 in (
      ready_still given.0 long refl refl,
      rw normal (start-bounded (normalized plus_zero w) _ (normal_start w (λ j. c.type_inv.weights j) v.ends v.total) refl),
      length-take-le _ _ (omega (arith, given.0.few)) ∙ sym long,
      given.3 ∙ sym long,
      given.4,
    )

pub returns : goal.returns
returns c =
    rw (← c.normalize.ensures ∙ ap (normalized plus_zero) c.copy.ensures) c.thin_on.ensures
