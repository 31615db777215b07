-- `phasing::phase_on` meets its contract: what is chosen is a matrix of its own that the phase runs on, and what the phase leaves is put back.
use Rattle.phased.proofs.Inside.{chosen-part, roomy_part, phased-at}
use mathlib.Core.Path.{sym, ◌∙◌}
use lib.ListN.{length}
use lib.Ieee.{nan}
use Rattle.seq.specs.Sums.{plus_zero}
use Rattle.phasing.proofs.phase_on.Goals as goal

pub choose-requires : goal.choose-requires
choose-requires c =
    (c.requires.room_at_places.subcols, c.requires.chosen.2)

pub choose-requires-2 : goal.choose-requires-2
choose-requires-2 c =
    (c.requires.room_at_places.subscale, rw c.requires.chosen.0.paired c.requires.chosen.2)

pub choose-requires-3 : goal.choose-requires-3
choose-requires-3 c =
    (c.requires.room_at_places.subx, rw c.requires.chosen.1.wide c.requires.chosen.2)

pub phase-p-requires : goal.phase-p-requires
phase-p-requires c =
    let a = c.args in
    let lc = c.choose.auto.to ∙ c.requires.room_at_places.subcols in
    let lx = c.choose-3.auto.to ∙ c.requires.room_at_places.subx in (
      rw ((c.choose.ensures 0), (c.choose-2.ensures nan))
          (chosen-part a.matrix.now a.bits.now a.n a.cols.now a.scale.now a.places.now _ c.requires.chosen.0 c.requires.chosen.2
          c.requires.chosen.3),
      rw lc (roomy_part _ (length a.places.now) _ _ _ _ _ _ c.requires.chosen.1 c.requires.chosen.3 lx c.requires.room_at_places.subfree),
      c.requires.room_at_places.g ∙ sym lc,
    )

pub put_back-requires : goal.put_back-requires
put_back-requires c =
    (c.phase-p.auto.x ∙ c.choose-3.auto.to ∙ c.requires.room_at_places.subx, rw c.requires.chosen.1.wide c.requires.chosen.2)

pub put_back-requires-2 : goal.put_back-requires-2
put_back-requires-2 c =
    (c.phase-p.auto.free ∙ c.requires.room_at_places.subfree, rw c.requires.chosen.1.marks c.requires.chosen.2)

pub shape_of-subcols : goal.shape_of-subcols
shape_of-subcols c = c.choose.auto.to

pub shape_of-subscale : goal.shape_of-subscale
shape_of-subscale c = c.choose-2.auto.to

pub returns : goal.returns
returns c =
    let a = c.args in
    phased-at a.matrix.now a.bits.now a.n a.cols.now a.scale.now a.places.now (length a.blocked.now) a.rng
    a.numbers.now a.x.now a.free.now
    _ _ _ (c.choose.ensures 0) (c.choose-2.ensures nan) (c.choose-3.ensures nan)
    c.phase-p.ensures c.phase-p.auto.blocked
    (c.put_back.ensures plus_zero) (c.put_back-2.ensures 0)
