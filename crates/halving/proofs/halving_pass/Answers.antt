-- `halving::halving_pass` meets its contract: it lends the support, and room for its ranking, to `halve_ranked`.
use mathlib.Core.Path.{sym, ◌∙◌}
use native.Mathlib.Omega.{arith}
use lib.Seq.{length-take-le}
use Rattle.halving.proofs.halving_pass.Goals as goal

pub slice_bounds-halve_ranked-end : goal.slice_bounds-halve_ranked-end
slice_bounds-halve_ranked-end c = sym (length-take-le _ _ c.support_into-s.ensures.within)

pub slice_bounds-halve_ranked-end-2 : goal.slice_bounds-halve_ranked-end-2
slice_bounds-halve_ranked-end-2 c = sym (length-take-le _ _ (omega arith))

pub halve_ranked-requires : goal.halve_ranked-requires
halve_ranked-requires c =
    let p = c.support_into-s.ensures in
    (c.requires.0, c.requires.1, p.front, length-take-le _ _ (omega arith) ∙ sym (length-take-le _ _ p.within), c.requires.2)
