-- `coloring::walk_anew` meets its contract: what is filled anew is where the walk starts.
use lib.Seq.{length-take-le, length_front}
use Rattle.colored.proofs.Walks.{roomy_still, fresh_is}
use mathlib.Core.Path.{refl, sym}
use native.Mathlib.Omega.{arith}
use lib.ListN.{length}
use Rattle.coloring.proofs.walk_anew.Goals as goal

pub slice_bounds-fill-end-2 : goal.slice_bounds-fill-end-2
slice_bounds-fill-end-2 c = sym (length-take-le _ _ (omega arith))

pub walk_to_end-requires : goal.walk_to_end-requires
walk_to_end-requires c =
    let a = c.args in (
      c.requires.0,
      roomy_still _ a.numbers.now _ a.blocked.now _ a.x.now _ a.free.now _ c.requires.1
          (length_front a.numbers.now c.fill-2.new.a (length a.blocked.now) c.fill-2.auto.a) refl
          c.fill.auto.a c.fill-3.auto.a,
      fresh_is _ _ a.numbers.now a.x.now _ _ a.free.now _ c.requires.1.wide c.requires.1.marks (omega arith)
          c.fill.ensures c.fill-2.ensures c.fill-3.ensures,
    )
