-- `walk::steps` meets its contract: what is left of the phase is the whole phase. The measure is how many coordinates are free.
use Rattle.chosen.specs.Entries.{entry_of}
use Rattle.blocking.specs.Held.{held}
use Rattle.walked.proofs.Phases.{going_start, going-full, going-last, fewer_free, going_on}
use mathlib.Core.Path.{refl, ◌∙◌}
use native.Mathlib.Omega.{arith}
use lib.ListN.{length}
use Rattle.walk.proofs.steps.Goals as goal

pub loop-at-init : goal.loop-at-init
loop-at-init c =
    let a = c.args in
    going_start (entry_of a.matrix.now a.bits.now a.n a.cols.now a.scale.now) (length a.cols.now) a.numbers.now
    a.blocked.now a.x.now a.free.now a.g.now a.from.count a.from.frozen a.from.rng
    c.requires.1 c.requires.3

pub step-more-requires : goal.step-more-requires
step-more-requires c =
    let p = c.requires in
    let i = c.loop-at.invariant in
    (rw i.rows p.0, i.roomy, i.gs ∙ p.2, omega (arith, i.few, p.0.few))

pub overflow_add-directions : goal.overflow_add-directions
overflow_add-directions c =
    omega (arith, c.loop-at.invariant.drawn_few, c.loop-at.invariant.few, c.requires.0.few)

pub returns-then-not-more : goal.returns-then-not-more
returns-then-not-more c =
    let a = c.args in
    let s = c.loop-at in
    let w = held a.numbers.now a.blocked.now a.x.now a.free.now a.from.count a.from.frozen a.from.rng in
    going-last (entry_of a.matrix.now a.bits.now a.n a.cols.now a.scale.now) (length a.cols.now) a.numbers.now a.blocked.now
    a.x.now a.free.now a.g.now w s.numbers s.blocked s.x s.free s.g s.at.count s.at.frozen
    s.at.rng s.directions s.invariant c.step-more.new.numbers c.step-more.new.blocked c.step-more.new.x
    c.step-more.new.free c.step-more.new.at c.step-more.result c.loop-at-test.true c.step-more.ensures
    c.if-not-more.true

pub loop-at-smaller : goal.loop-at-smaller
loop-at-smaller c =
    let a = c.args in
    let s = c.loop-at in
    let w = held a.numbers.now a.blocked.now a.x.now a.free.now a.from.count a.from.frozen a.from.rng in
    fewer_free (entry_of a.matrix.now a.bits.now a.n a.cols.now a.scale.now) (length a.cols.now) a.numbers.now a.blocked.now
    a.x.now a.free.now a.g.now w s.numbers s.blocked s.x s.free s.g s.at.count s.at.frozen
    s.at.rng s.directions s.invariant c.step-more.new.numbers c.step-more.new.blocked c.step-more.new.x
    c.step-more.new.free c.step-more.new.at c.step-more.result c.loop-at-test.true c.step-more.ensures
    c.if-not-more.false

pub loop-at-preserved : goal.loop-at-preserved
loop-at-preserved c =
    let a = c.args in
    let s = c.loop-at in
    let w = held a.numbers.now a.blocked.now a.x.now a.free.now a.from.count a.from.frozen a.from.rng in
    going_on (entry_of a.matrix.now a.bits.now a.n a.cols.now a.scale.now) (length a.cols.now) a.numbers.now a.blocked.now
    a.x.now a.free.now a.g.now w s.numbers s.blocked s.x s.free s.g s.at.count s.at.frozen
    s.at.rng s.directions s.invariant c.step-more.new.numbers c.step-more.new.blocked c.step-more.new.x
    c.step-more.new.free c.step-more.new.at c.step-more.result c.loop-at-test.true c.step-more.ensures
    c.step-more.new.g c.if-not-more.false c.step-more.auto.numbers
    c.step-more.auto.blocked c.step-more.auto.x c.step-more.auto.free
    c.step-more.auto.g

pub returns-after-loop-at : goal.returns-after-loop-at
returns-after-loop-at c =
    let a = c.args in
    let s = c.loop-at in
    let w = held a.numbers.now a.blocked.now a.x.now a.free.now a.from.count a.from.frozen a.from.rng in
    going-full (entry_of a.matrix.now a.bits.now a.n a.cols.now a.scale.now) (length a.cols.now) a.numbers.now a.blocked.now
    a.x.now a.free.now a.g.now w s.numbers s.blocked s.x s.free s.g s.at.count s.at.frozen
    s.at.rng s.directions s.invariant c.loop-at-test.false _ refl refl refl refl
