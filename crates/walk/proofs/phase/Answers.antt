-- `walk::phase` meets its contract: `begin` leaves the start of the phase in the scratch, and `steps` goes on from it.
use Rattle.chosen.specs.Entries.{entry_of}
use Rattle.walked.proofs.Phases.{start_room, phase_is}
use mathlib.Core.Path.{refl, ◌∙◌}
use lib.ListN.{length}
use Rattle.walk.proofs.phase.Goals as goal

pub begin-count-requires : goal.begin-count-requires
begin-count-requires c =
    let p = c.requires in
    (p.0, p.2, p.1.room)

pub steps-requires : goal.steps-requires
steps-requires c =
    let a = c.args in
    let p = c.requires in (
      rw c.begin-count.auto.blocked p.0,
      start_room (entry_of a.matrix.now a.bits.now a.n a.cols.now a.scale.now) (length a.cols.now) a.numbers.now
          a.blocked.now a.x.now a.free.now c.begin-count.new.numbers c.begin-count.new.blocked
          c.fill.new.a c.begin-count.result p.1 c.begin-count.ensures
          c.begin-count.auto.numbers c.begin-count.auto.blocked c.fill.ensures,
      c.begin-count.auto.v ∙ p.2,
      refl,
    )

pub shape_of-free : goal.shape_of-free
shape_of-free c =
    c.steps.auto.free ∙ c.fill.auto.a

pub returns : goal.returns
returns c =
    let a = c.args in
    let p = c.requires in
    phase_is (entry_of a.matrix.now a.bits.now a.n a.cols.now a.scale.now) (length a.cols.now) a.numbers.now a.blocked.now
    a.x.now a.free.now c.begin-count.new.numbers c.begin-count.new.blocked c.fill.new.a
    c.begin-count.result p.1 c.begin-count.ensures c.begin-count.auto.numbers c.begin-count.auto.blocked
    c.fill.ensures a.rng c.steps.ensures
