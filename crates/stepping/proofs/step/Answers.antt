-- `stepping::step` meets its contract: a law for each way out, too short a direction, a step that is not finite, and one that is made.
use Rattle.chosen.specs.Entries.{entry_of}
use Rattle.walked.proofs.Stepping.{vectors_room, stops_short, stops_nowhere, moves_on, roomy_kept}
use Prim.Native.Nat.{◌+◌, ◌*◌, ◌-◌}
use mathlib.Core.Path.{refl, ◌∙◌}
use native.Mathlib.Omega.{arith}
use lib.ListN.{length}
use Rattle.stepping.proofs.step.Goals as goal

pub overflow_mul-end : goal.overflow_mul-end
overflow_mul-end c =
    omega (
      arith,
      vectors_room (length c.args.cols.now) c.args.numbers.now c.args.blocked.now
          c.args.x.now c.args.free.now c.args.at.now.count c.requires.1,
    )

pub overflow_add-end : goal.overflow_add-end
overflow_add-end c =
    omega (
      arith,
      vectors_room (length c.args.cols.now) c.args.numbers.now c.args.blocked.now
          c.args.x.now c.args.free.now c.args.at.now.count c.requires.1,
    )

pub slice_bounds-direct-end : goal.slice_bounds-direct-end
slice_bounds-direct-end c =
    omega (
      arith,
      vectors_room (length c.args.cols.now) c.args.numbers.now c.args.blocked.now
          c.args.x.now c.args.free.now c.args.at.now.count c.requires.1,
    )

pub returns-then-direct : goal.returns-then-direct
returns-then-direct c =
    let a = c.args in
    let p = c.requires in
    let l = length a.cols.now in
    let r = length a.blocked.now in
    let m = a.at.now.count * l in
    let e = entry_of a.matrix.now a.bits.now a.n a.cols.now a.scale.now in
    stops_short e l a.numbers.now a.blocked.now a.x.now a.free.now a.at.now.count a.at.now.frozen
    a.at.now.rng (r + r + r + m - (r + r + r)) a.g.now c.draw_into.new.g
    c.direct.new.g c.direct.result p.1 (omega arith) p.2
    c.draw_into.ensures.0 c.direct.ensures.left c.direct.ensures.short _ c.if-direct.true
    refl refl c.draw_into.ensures.1

pub advance-requires : goal.advance-requires
advance-requires c =
    let p = c.requires in
    (p.0, c.direct.auto.g ∙ c.draw_into.auto.g ∙ p.2, p.1.wide, p.1.marks, omega (arith, p.1.room))

pub returns-then-not-advance : goal.returns-then-not-advance
returns-then-not-advance c =
    let a = c.args in
    let p = c.requires in
    let l = length a.cols.now in
    let r = length a.blocked.now in
    let m = a.at.now.count * l in
    let e = entry_of a.matrix.now a.bits.now a.n a.cols.now a.scale.now in
    stops_nowhere e l a.numbers.now a.blocked.now a.x.now a.free.now a.at.now.count a.at.now.frozen
    a.at.now.rng (r + r + r + m - (r + r + r)) a.g.now c.draw_into.new.g
    c.direct.new.g c.direct.result p.1 (omega arith) p.2
    c.draw_into.ensures.0 c.direct.ensures.left c.direct.ensures.short
    c.advance.result c.advance.new.numbers c.advance.new.x
    c.advance.ensures c.if-direct.false _ (c.if-not-advance.true) refl refl
    c.draw_into.ensures.1

pub freeze-f-requires : goal.freeze-f-requires
freeze-f-requires c =
    let p = c.requires in (
      p.0,
      roomy_kept _ _ p.1 c.advance.auto.numbers c.advance.auto.x,
      c.advance.auto.g ∙ c.direct.auto.g ∙ c.draw_into.auto.g
          ∙ p.2,
      p.3,
    )

pub shape_of-g : goal.shape_of-g
shape_of-g c =
    c.freeze-f.auto.v ∙ c.advance.auto.g ∙ c.direct.auto.g
    ∙ c.draw_into.auto.g

pub returns : goal.returns
returns c =
    let a = c.args in
    let p = c.requires in
    let l = length a.cols.now in
    let r = length a.blocked.now in
    let m = a.at.now.count * l in
    let e = entry_of a.matrix.now a.bits.now a.n a.cols.now a.scale.now in
    moves_on e l a.numbers.now a.blocked.now a.x.now a.free.now a.at.now.count a.at.now.frozen
    a.at.now.rng (r + r + r + m - (r + r + r)) a.g.now c.draw_into.new.g
    c.direct.new.g c.direct.result p.1 (omega arith) p.2
    c.draw_into.ensures.0 c.direct.ensures.left c.direct.ensures.short
    c.advance.result c.advance.new.numbers c.advance.new.x
    c.advance.ensures c.if-direct.false
    _ c.freeze-f.new.numbers c.freeze-f.new.blocked c.freeze-f.new.x
    c.freeze-f.new.free c.freeze-f.result.count c.freeze-f.result.frozen
    (c.if-not-advance.false) c.advance.auto.x
    c.freeze-f.ensures refl refl c.draw_into.ensures.1
