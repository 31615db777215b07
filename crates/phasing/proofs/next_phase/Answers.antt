-- `phasing::next_phase` meets its contract: the places are those that `keep` gives, and the two arms are the two ways of `phased`.
use lib.Seq.{length-take-le}
use Rattle.seq.specs.Keep.{keep}
use Rattle.seq.specs.Marks.{is_set}
use Rattle.chosen.specs.Entries.{entry_of}
use Rattle.phased.proofs.Inside.{places-below, places_few, phase_goes, phase_rounds}
use mathlib.Core.Path.{sym, ap, ◌∙◌}
use native.Mathlib.Omega.{arith}
use lib.ListN.{length}
use Rattle.phasing.proofs.next_phase.Goals as goal

pub free_places-l-requires : goal.free_places-l-requires
free_places-l-requires c =
    let p = c.requires in
    (omega (arith, p.chosen.1.marks, p.room_for_all.places), omega (arith, p.chosen.1.marks, p.chosen.0.few))

pub slice_bounds-phase_on-end : goal.slice_bounds-phase_on-end
slice_bounds-phase_on-end c = c.free_places-l.ensures.within

pub slice_bounds-phase_on-end-2 : goal.slice_bounds-phase_on-end-2
slice_bounds-phase_on-end-2 c = sym (length-take-le _ _ c.free_places-l.ensures.within)

pub slice_bounds-phase_on-end-3 : goal.slice_bounds-phase_on-end-3
slice_bounds-phase_on-end-3 c =
    let few = places_few c.args.free.now _ _ c.free_places-l.result c.requires.chosen.1.marks c.free_places-l.ensures in
    omega (arith, few, c.requires.room_for_all.subcols)

pub slice_bounds-phase_on-end-4 : goal.slice_bounds-phase_on-end-4
slice_bounds-phase_on-end-4 c =
    let few = places_few c.args.free.now _ _ c.free_places-l.result c.requires.chosen.1.marks c.free_places-l.ensures in
    sym (length-take-le _ _ (omega (arith, few, c.requires.room_for_all.subcols)))

pub slice_bounds-phase_on-end-5 : goal.slice_bounds-phase_on-end-5
slice_bounds-phase_on-end-5 c =
    let few = places_few c.args.free.now _ _ c.free_places-l.result c.requires.chosen.1.marks c.free_places-l.ensures in
    omega (arith, few, c.requires.room_for_all.subscale)

pub slice_bounds-phase_on-end-6 : goal.slice_bounds-phase_on-end-6
slice_bounds-phase_on-end-6 c =
    let few = places_few c.args.free.now _ _ c.free_places-l.result c.requires.chosen.1.marks c.free_places-l.ensures in
    sym (length-take-le _ _ (omega (arith, few, c.requires.room_for_all.subscale)))

pub slice_bounds-phase_on-end-7 : goal.slice_bounds-phase_on-end-7
slice_bounds-phase_on-end-7 c =
    let few = places_few c.args.free.now _ _ c.free_places-l.result c.requires.chosen.1.marks c.free_places-l.ensures in
    omega (arith, few, c.requires.room_for_all.subx)

pub slice_bounds-phase_on-end-8 : goal.slice_bounds-phase_on-end-8
slice_bounds-phase_on-end-8 c =
    let few = places_few c.args.free.now _ _ c.free_places-l.result c.requires.chosen.1.marks c.free_places-l.ensures in
    sym (length-take-le _ _ (omega (arith, few, c.requires.room_for_all.subx)))

pub slice_bounds-phase_on-end-9 : goal.slice_bounds-phase_on-end-9
slice_bounds-phase_on-end-9 c =
    let few = places_few c.args.free.now _ _ c.free_places-l.result c.requires.chosen.1.marks c.free_places-l.ensures in
    omega (arith, few, c.requires.room_for_all.subfree)

pub slice_bounds-phase_on-end-10 : goal.slice_bounds-phase_on-end-10
slice_bounds-phase_on-end-10 c =
    let few = places_few c.args.free.now _ _ c.free_places-l.result c.requires.chosen.1.marks c.free_places-l.ensures in
    sym (length-take-le _ _ (omega (arith, few, c.requires.room_for_all.subfree)))

pub slice_bounds-phase_on-end-11 : goal.slice_bounds-phase_on-end-11
slice_bounds-phase_on-end-11 c =
    let few = places_few c.args.free.now _ _ c.free_places-l.result c.requires.chosen.1.marks c.free_places-l.ensures in
    omega (arith, few, c.requires.room_for_all.g)

pub slice_bounds-phase_on-end-12 : goal.slice_bounds-phase_on-end-12
slice_bounds-phase_on-end-12 c =
    let few = places_few c.args.free.now _ _ c.free_places-l.result c.requires.chosen.1.marks c.free_places-l.ensures in
    sym (length-take-le _ _ (omega (arith, few, c.requires.room_for_all.g)))

pub phase_on-p-requires : goal.phase_on-p-requires
phase_on-p-requires c =
    let few = places_few c.args.free.now _ _ c.free_places-l.result c.requires.chosen.1.marks c.free_places-l.ensures in
    let within = c.free_places-l.ensures.within in
    let long = sym (length-take-le _ _ within) in
    let b = places-below c.args.free.now _ (length c.args.cols.now) c.free_places-l.result
    c.requires.chosen.1.marks c.free_places-l.ensures in record {
      chosen = (c.requires.chosen.0, c.requires.chosen.1, b.0, b.1);
      room_at_places = record {
        subcols = length-take-le _ _ (omega (arith, few, c.requires.room_for_all.subcols)) ∙ long;
        subscale = length-take-le _ _ (omega (arith, few, c.requires.room_for_all.subscale)) ∙ long;
        subx = length-take-le _ _ (omega (arith, few, c.requires.room_for_all.subx)) ∙ long;
        subfree = length-take-le _ _ (omega (arith, few, c.requires.room_for_all.subfree)) ∙ long;
        g = length-take-le _ _ (omega (arith, few, c.requires.room_for_all.g)) ∙ long;
      };
    }

pub round_free-requires : goal.round_free-requires
round_free-requires c =
    c.phase_on-p.auto.free ∙ c.requires.chosen.1.marks ∙ sym (c.phase_on-p.auto.x ∙ c.requires.chosen.1.wide)

pub shape_of-x-then-p-eq0 : goal.shape_of-x-then-p-eq0
shape_of-x-then-p-eq0 c =
    c.round_free.auto.x ∙ c.phase_on-p.auto.x

pub shape_of-free-then-p-eq0 : goal.shape_of-free-then-p-eq0
shape_of-free-then-p-eq0 c =
    c.fill.auto.a ∙ c.phase_on-p.auto.free

pub shape_of-places-then-p-eq0 : goal.shape_of-places-then-p-eq0
shape_of-places-then-p-eq0 c =
    c.free_places-l.auto.places

pub returns-then-p-eq0 : goal.returns-then-p-eq0
returns-then-p-eq0 c =
    let a = c.args in
    record {
      goes = λ d. phase_rounds (entry_of a.matrix.now a.bits.now a.n a.cols.now a.scale.now) (length a.cols.now)
          (length a.blocked.now) a.rng a.numbers.now a.x.now a.free.now _ _ _ _ _
          (c.free_places-l.ensures.front ∙ ap (keep (is_set a.free.now)) c.requires.chosen.1.marks)
          c.phase_on-p.ensures d _ _ c.if-p-eq0.true c.round_free.ensures
          c.fill.ensures;
    }

pub shape_of-places-else-p-eq0 : goal.shape_of-places-else-p-eq0
shape_of-places-else-p-eq0 c =
    c.free_places-l.auto.places

pub returns-else-p-eq0 : goal.returns-else-p-eq0
returns-else-p-eq0 c =
    let a = c.args in
    record {
      goes = λ d. phase_goes (entry_of a.matrix.now a.bits.now a.n a.cols.now a.scale.now) (length a.cols.now)
          (length a.blocked.now) a.rng a.numbers.now a.x.now a.free.now _ _ _ _ _
          (c.free_places-l.ensures.front ∙ ap (keep (is_set a.free.now)) c.requires.chosen.1.marks)
          c.phase_on-p.ensures d c.if-p-eq0.false;
    }
