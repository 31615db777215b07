-- `sparsification::thin` meets its contract: a fault is refused, and a job without one has the sizes, values and rule that thinning asks for.
use mathlib.Core.Path.{sym, ◌∙◌}
use mathlib.Core.List.{[]}
use native.Mathlib.Omega.{arith}
use lib.ListN.{length}
use lib.Seq.{length-take-le}
use Rattle.draw.specs.SplitMix.{seeded}
use Rattle.refusal.proofs.Reasons.{given}
use Rattle.answers.proofs.Accepting.{accepted, values_fine}
use Rattle.answers.proofs.Finishing.{thinned_refused, thinned_from, doubles_whole, ready_of}
use Rattle.sparsification.proofs.thin.Goals as goal

pub returns-in-Err : goal.returns-in-Err
returns-in-Err c =
    let a = c.args in
    thinned_refused a.job.rule (seeded a.job.seed a.job.edition) a.matrix.now a.m a.n a.weights.now
    a.output.now a.numbers.now a.indices.now
    _ c.refused.result (c.number.ensures ∙ c.in-Err.ensures) (given _ _ c.number.ensures) c.refused.ensures

pub slice_bounds-start-end : goal.slice_bounds-start-end
slice_bounds-start-end c =
    let a = c.args in
    let s = accepted a.job.rule a.job.edition a.matrix.now a.m a.n a.weights.now (length a.output.now) (length a.numbers.now)
    (length a.indices.now) (sym c.in_default.ensures) in
    omega (arith, s.sized.few)

pub slice_bounds-thin_sound-end-2 : goal.slice_bounds-thin_sound-end-2
slice_bounds-thin_sound-end-2 c =
    let a = c.args in
    let s = accepted a.job.rule a.job.edition a.matrix.now a.m a.n a.weights.now (length a.output.now) (length a.numbers.now)
    (length a.indices.now) (sym c.in_default.ensures) in
    sym (length-take-le _ _ (omega (arith, s.sized.few)))

pub thin_sound-requires : goal.thin_sound-requires
thin_sound-requires c =
    let a = c.args in
    let none = sym c.in_default.ensures in
    let s = accepted a.job.rule a.job.edition a.matrix.now a.m a.n a.weights.now (length a.output.now) (length a.numbers.now)
    (length a.indices.now) none in (
      ready_of a.matrix.now [] a.m a.n a.weights.now a.output.now a.numbers.now a.indices.now
          (doubles_whole a.matrix.now a.m a.n s.sized.whole) s.sized s.valued.entries,
      values_fine a.job.rule a.job.edition a.matrix.now a.m a.n a.weights.now _ _ _ none,
      length-take-le _ _ (omega (arith, s.sized.few)) ∙ sym s.sized.given,
      s.sized.left ∙ sym s.sized.given,
      s.ruled,
    )

pub returns : goal.returns
returns c =
    let a = c.args in
    thinned_from a.job.rule (seeded a.job.seed a.job.edition) a.matrix.now a.m a.n a.weights.now
    a.output.now a.numbers.now a.indices.now
    (sym c.in_default.ensures) c.thin_sound.result _ _ _ (rw c.new.ensures at c.thin_sound.ensures)
