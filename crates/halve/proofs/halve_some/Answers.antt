-- `halve::halve_some` meets its contract: the columns that the colouring reads are those of the definition.
use mathlib.Core.Path.{◌∙◌}
use native.Mathlib.Omega.{arith}
use Rattle.halved.proofs.Columns.{column_inside, halved_by_lem, directions_fit, sweeps_fit}
use Rattle.halved.proofs.FiniteEntries.{finite-entry}
use Rattle.halve.proofs.halve_some.Goals as goal

pub coloring-c-requires : goal.coloring-c-requires
coloring-c-requires c =
    let a = c.args in
    let v = c.requires.0 in
    let inside = column_inside a.matrix.now a.bits.now a.n a.w.now a.omega a.some.now v.whole v.inside.below in (
      record {
        low = omega arith;
        high = omega arith;
        short = omega arith;
        few = v.few;
        paired = c.scales_into.auto.scale ∙ v.scales;
        inside = inside;
        sound = λ p i h t. finite-entry a.matrix.now a.bits.now a.n a.some.now
            c.scales_into.new.scale p i (c.type_inv.matrix _)
            (c.slice_known-6-1.given p) v.small (inside p h) t;
      },
      v.colours,
      omega (arith, v.floats, v.rows),
    )

pub sigma_of-sigma-requires : goal.sigma_of-sigma-requires
sigma_of-sigma-requires c =
    omega (arith, c.coloring-c.auto.x, c.requires.0.colours, c.requires.0.few)

pub double_or_zero-requires : goal.double_or_zero-requires
double_or_zero-requires c =
    (c.coloring-c.auto.x ∙ c.requires.0.colours, c.requires.0.inside)

pub overflow_add-result : goal.overflow_add-result
overflow_add-result c =
    let fit = directions_fit _ _ _ _ _ c.requires.1 c.requires.0.few c.coloring-c.ensures in
    omega (arith, fit)

pub overflow_add-result-2 : goal.overflow_add-result-2
overflow_add-result-2 c =
    let fit = sweeps_fit _ _ _ _ _ c.requires.1 c.requires.0.few c.coloring-c.ensures in
    omega (arith, fit)

pub returns : goal.returns
returns c =
    let a = c.args in
    let v = c.requires.0 in
    record {
      leaves = halved_by_lem a.matrix.now a.bits.now a.n a.w.now a.omega a.some.now v.whole v.inside.below
          a.tally.rng _ _ _ _ _ c.coloring-c.result a.tally.directions a.tally.sweeps
          c.scales_into.ensures v.rows
          c.coloring-c.ensures c.sigma_of-sigma.ensures c.double_or_zero.ensures;
    }
