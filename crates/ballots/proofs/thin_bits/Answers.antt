-- `ballots::thin_bits` meets its contract: a fault is refused, and a job without one has what thinning asks for.
use mathlib.Core.Path.{sym, ◌∙◌}
use native.Mathlib.Omega.{arith}
use lib.Seq.{length-take-le}
use Rattle.draw.specs.SplitMix.{seeded}
use Rattle.refusal.proofs.Reasons.{given}
use Rattle.bitfaults.proofs.Outcomes.{granted, bits_refused, bits_thinned}
use Rattle.ballots.proofs.thin_bits.Goals as goal

pub returns-in-Err : goal.returns-in-Err
returns-in-Err c =
    let a = c.args in
    bits_refused a.job.rule (seeded a.job.seed a.job.edition) a.bits.now a.m a.n a.weights.now
    a.output.now a.numbers.now a.indices.now
    _ c.refused.result (c.number.ensures ∙ c.in-Err.ensures) (given _ _ c.number.ensures) c.refused.ensures

pub slice_bounds-start-end : goal.slice_bounds-start-end
slice_bounds-start-end c =
    let a = c.args in
    let g = granted a.job.rule a.job.edition a.bits.now a.m a.n a.weights.now a.output.now a.numbers.now a.indices.now
    (sym c.in_default.ensures) in
    omega (arith, g.few)

pub slice_bounds-thin_sound-end-2 : goal.slice_bounds-thin_sound-end-2
slice_bounds-thin_sound-end-2 c =
    let a = c.args in
    let g = granted a.job.rule a.job.edition a.bits.now a.m a.n a.weights.now a.output.now a.numbers.now a.indices.now
    (sym c.in_default.ensures) in
    sym (length-take-le _ _ (omega (arith, g.few)))

pub thin_sound-requires : goal.thin_sound-requires
thin_sound-requires c =
    let a = c.args in
    let g = granted a.job.rule a.job.edition a.bits.now a.m a.n a.weights.now a.output.now a.numbers.now a.indices.now
    (sym c.in_default.ensures) in
    (g.ready, g.valued, length-take-le _ _ (omega (arith, g.few)) ∙ sym g.given, g.left ∙ sym g.given, g.ruled)

pub returns : goal.returns
returns c =
    let a = c.args in
    bits_thinned a.job.rule (seeded a.job.seed a.job.edition) a.bits.now a.m a.n a.weights.now
    a.output.now a.numbers.now a.indices.now
    (sym c.in_default.ensures) (rw c.new.ensures at c.thin_sound.ensures)
