-- `coloring::walk_to_end` meets its contract: what is left of the walk stays the same from phase to phase, and each phase leaves fewer coordinates free.
use Rattle.seq.specs.Sums.{plus_zero}
use Rattle.chosen.specs.Entries.{entry_of}
use Rattle.phased.specs.Phasing.{between}
use Rattle.colored.proofs.Walks.{walk_begun, walk_falls, walk_few, walk_turn, walk_over, roomy_still}
use Rattle.coloring.proofs.Marks.{some_free, none_free}
use Rattle.seq.specs.Marks.{is_set}
use Rattle.seq.proofs.Keeping.{count_short}
use mathlib.Core.Path.{refl, sym, ◌∙◌}
use native.Mathlib.Omega.{arith}
use lib.ListN.{length}
use Rattle.coloring.proofs.walk_to_end.Goals as goal

pub loop-places-init : goal.loop-places-init
loop-places-init c = (
  c.requires.1,
  refl,
  refl,
  record { places = refl; subcols = refl; subscale = refl; subx = refl; subfree = refl; g = refl },
  walk_begun _ _ _ _ _ _ _ _ c.requires.2,
  omega (arith, count_short (is_set c.args.free.now) (length c.args.free.now), c.requires.1.marks),
)

pub slice_bounds-next_phase-end : goal.slice_bounds-next_phase-end
slice_bounds-next_phase-end c = sym c.loop-places.invariant.3.places

pub slice_bounds-next_phase-end-in-loop-places : goal.slice_bounds-next_phase-end-in-loop-places
slice_bounds-next_phase-end-in-loop-places c = sym c.loop-places.invariant.3.subcols

pub slice_bounds-next_phase-end-in-loop-places-2 : goal.slice_bounds-next_phase-end-in-loop-places-2
slice_bounds-next_phase-end-in-loop-places-2 c = sym c.loop-places.invariant.3.subscale

pub slice_bounds-next_phase-end-in-loop-places-3 : goal.slice_bounds-next_phase-end-in-loop-places-3
slice_bounds-next_phase-end-in-loop-places-3 c = sym c.loop-places.invariant.3.subx

pub slice_bounds-next_phase-end-in-loop-places-4 : goal.slice_bounds-next_phase-end-in-loop-places-4
slice_bounds-next_phase-end-in-loop-places-4 c = sym c.loop-places.invariant.3.subfree

pub slice_bounds-next_phase-end-in-loop-places-5 : goal.slice_bounds-next_phase-end-in-loop-places-5
slice_bounds-next_phase-end-in-loop-places-5 c = sym c.loop-places.invariant.3.g

pub next_phase-next-requires : goal.next_phase-next-requires
next_phase-next-requires c =
    let few = c.requires.0.few in
    let r = c.loop-places.invariant.3 in record {
      chosen = (rw c.loop-places.invariant.2 c.requires.0, c.loop-places.invariant.0);
      room_for_all = record {
        places = omega (arith, few, r.places);
        subcols = omega (arith, few, r.subcols);
        subscale = omega (arith, few, r.subscale);
        subx = omega (arith, few, r.subx);
        subfree = omega (arith, few, r.subfree);
        g = omega (arith, few, r.g);
      };
    }

pub overflow_add-directions : goal.overflow_add-directions
overflow_add-directions c =
    let a = c.args in
    let l = c.loop-places in
    let step = rw l.invariant.2 at (c.next_phase-next.ensures.goes l.directions) in
    omega (
      arith,
      c.requires.0.few,
      l.invariant.5,
      walk_few plus_zero (entry_of a.matrix.now a.bits.now a.n a.cols.now a.scale.now) (length a.cols.now)
          (length a.blocked.now) (between (length a.blocked.now) l.numbers l.x l.free l.rng l.directions) _ step
          (some_free l.free (sym c.contains.ensures.value ∙ c.loop-places-test.true)) l.invariant.0.marks,
    )

pub loop-places-smaller : goal.loop-places-smaller
loop-places-smaller c =
    let a = c.args in
    let l = c.loop-places in
    let step = rw l.invariant.2 at (c.next_phase-next.ensures.goes l.directions) in
    omega (
      arith,
      walk_falls plus_zero (entry_of a.matrix.now a.bits.now a.n a.cols.now a.scale.now) (length a.cols.now)
          (length a.blocked.now) (between (length a.blocked.now) l.numbers l.x l.free l.rng l.directions) _ step
          (some_free l.free (sym c.contains.ensures.value ∙ c.loop-places-test.true)),
    )

pub loop-places-preserved : goal.loop-places-preserved
loop-places-preserved c =
    let a = c.args in
    let l = c.loop-places in
    let step = rw l.invariant.2 at (c.next_phase-next.ensures.goes l.directions) in
    let kept = c.next_phase-next.auto in (
      roomy_still _ _ _ _ _ _ _ _ _ l.invariant.0 kept.numbers kept.blocked kept.x kept.free,
      kept.numbers ∙ l.invariant.1,
      kept.blocked ∙ l.invariant.2,
      record {
        places = kept.places ∙ l.invariant.3.places;
        subcols = kept.subcols ∙ l.invariant.3.subcols;
        subscale = kept.subscale ∙ l.invariant.3.subscale;
        subx = kept.subx ∙ l.invariant.3.subx;
        subfree = kept.subfree ∙ l.invariant.3.subfree;
        g = kept.g ∙ l.invariant.3.g;
      },
      l.invariant.4 ∙ walk_turn plus_zero (entry_of a.matrix.now a.bits.now a.n a.cols.now a.scale.now) (length a.cols.now)
          (length a.blocked.now) (between (length a.blocked.now) l.numbers l.x l.free l.rng l.directions) _ step
          (some_free l.free (sym c.contains.ensures.value ∙ c.loop-places-test.true)),
      omega (
        arith,
        l.invariant.5,
        walk_few plus_zero (entry_of a.matrix.now a.bits.now a.n a.cols.now a.scale.now) (length a.cols.now)
            (length a.blocked.now) (between (length a.blocked.now) l.numbers l.x l.free l.rng l.directions) _ step
            (some_free l.free (sym c.contains.ensures.value ∙ c.loop-places-test.true)) l.invariant.0.marks,
      ),
    )

pub returns : goal.returns
returns c =
    let a = c.args in
    let l = c.loop-places in
    record {
      ends = sym
          (l.invariant.4 ∙ walk_over plus_zero (entry_of a.matrix.now a.bits.now a.n a.cols.now a.scale.now) (length a.cols.now)
          (length a.blocked.now) (between (length a.blocked.now) l.numbers l.x l.free l.rng l.directions)
          (none_free l.free (sym c.contains.ensures.value ∙ c.loop-places-test.false)));
    }
