-- `discrepancy::color_all` meets its contract: the columns in order, scaled by 1.0, are those of the matrix (`OwnColumns`), and the colouring reads no others.
use Rattle.colorfaults.proofs.Fronts.{front_few, filled-back, filled_long}
use lib.Seq.{length-take-le}
use Rattle.colorfaults.proofs.OwnColumns.{own_asked, own_left}
use Rattle.ieee.specs.Constants.{one}
use Rattle.colored.specs.Fresh.{ColoredAs}
use Prim.Native.Nat.{ℕ}
use mathlib.Core.Path.{sym, subst}
use mathlib.Core.List.{List}
use native.Mathlib.Omega.{arith}
use lib.ListN.{take}
use Rattle.discrepancy.proofs.color_all.Goals as goal

pub slice_bounds-count_up-end : goal.slice_bounds-count_up-end
slice_bounds-count_up-end c = sym (length-take-le _ _ c.requires.columns)

pub count_up-requires : goal.count_up-requires
count_up-requires c =
    front_few c.args.m 4294967296 _ (omega (arith, c.requires.columns))

pub slice_bounds-fill-end : goal.slice_bounds-fill-end
slice_bounds-fill-end c = sym (length-take-le _ _ c.requires.columns)

pub slice_bounds-cols-end-2 : goal.slice_bounds-cols-end-2
slice_bounds-cols-end-2 c = filled_long (λ i. i) _ _ _
    c.requires.columns
    c.count_up.ensures

pub slice_bounds-coloring-end : goal.slice_bounds-coloring-end
slice_bounds-coloring-end c =
    sym (length-take-le _ _ (filled_long (λ i. i) _ _ _ c.requires.columns c.count_up.ensures))

pub slice_bounds-scale-end-2 : goal.slice_bounds-scale-end-2
slice_bounds-scale-end-2 c = filled_long (λ i. one) _ _ _
    c.requires.columns
    c.fill.ensures

pub slice_bounds-coloring-end-2 : goal.slice_bounds-coloring-end-2
slice_bounds-coloring-end-2 c = sym (length-take-le _ _ (filled_long (λ i. one) _ _ _
    c.requires.columns
    c.fill.ensures))

pub slice_bounds-coloring-end-4 : goal.slice_bounds-coloring-end-4
slice_bounds-coloring-end-4 c = sym (length-take-le _ _ c.requires.words)

pub coloring-requires : goal.coloring-requires
coloring-requires c =
    let indices : List ℕ = take c.args.n c.args.indices.now in
    own_asked c.args.matrix.now c.args.bits.now c.args.m c.args.n _ _ indices
    c.requires.whole
    (filled-back (λ i. i) _ _ _ c.requires.columns c.count_up.ensures)
    (filled-back (λ i. one) _ _ _ c.requires.columns c.fill.ensures)
    (length-take-le c.args.n c.args.indices.now c.requires.words)
    c.args.x.now c.args.numbers.now c.requires.columns c.requires.rows
    c.type_inv.matrix c.requires.within c.requires.colours c.requires.floats

pub returns : goal.returns
returns c =
    let indices : List ℕ = take c.args.n c.args.indices.now in
    subst (ColoredAs _ _)
    (own_left c.args.matrix.now c.args.bits.now c.args.m c.args.n _ _ indices
    c.requires.whole
    (filled-back (λ i. i) _ _ _ c.requires.columns c.count_up.ensures)
    (filled-back (λ i. one) _ _ _ c.requires.columns c.fill.ensures)
    (length-take-le c.args.n c.args.indices.now c.requires.words)
    c.type_inv.matrix _ _ c.new.ensures)
    c.coloring.ensures
