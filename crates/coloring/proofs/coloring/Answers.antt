-- `coloring::coloring` meets its contract: the walk and local search, on the first rows of the scratch.
use Rattle.chosen.specs.Entries.{entry_of}
use Rattle.colored.proofs.Walks.{colors}
use lib.Seq.{length-take-le}
use mathlib.Core.Path.{◌≡◌, refl, sym, ◌∙◌}
use native.Mathlib.Omega.{arith}
use lib.ListN.{length, take}
use Rattle.coloring.proofs.coloring.Goals as goal

pub slice_bounds-walk_anew-end : goal.slice_bounds-walk_anew-end
slice_bounds-walk_anew-end c = sym (length-take-le _ _ (omega arith))

pub walk_anew-directions-requires : goal.walk_anew-directions-requires
walk_anew-directions-requires c =
    (c.requires.0, record { room = c.requires.2; wide = c.requires.1; marks = length-take-le _ _ (omega arith); most = omega arith })

pub slice_bounds-search_anew-end-2 : goal.slice_bounds-search_anew-end-2
slice_bounds-search_anew-end-2 c = sym (length-take-le _ _ (omega arith))

pub search_anew-sweeps-requires : goal.search_anew-sweeps-requires
search_anew-sweeps-requires c =
    let a = c.args in
    let m : length (take (length a.blocked.now) c.walk_anew-directions.new.numbers) ≡ length a.blocked.now =
    length-take-le _ _ (omega (arith, c.walk_anew-directions.auto.numbers)) in
    (rw m c.requires.0, c.walk_anew-directions.auto.x ∙ c.requires.1)

pub returns : goal.returns
returns c =
    let a = c.args in
    let m : length (take (length a.blocked.now) c.walk_anew-directions.new.numbers) ≡ length a.blocked.now =
    length-take-le _ _ (omega (arith, c.walk_anew-directions.auto.numbers)) in
    colors (entry_of a.matrix.now a.bits.now a.n a.cols.now a.scale.now) (length a.cols.now) (length a.blocked.now)
    a.rng _ _ _ _ _ _ _ c.walk_anew-directions.ensures.ends refl m c.search_anew-sweeps.ensures.ends
