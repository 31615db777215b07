-- `halve::halve` meets its contract: where none remain nothing changes, and else the remaining rest, at the front of a buffer, is halved.
use mathlib.Core.Path.{sym, ◌∙◌}
use native.Mathlib.Omega.{arith}
use lib.Seq.{length-take-le}
use Rattle.limits.specs.Reading.{read_of}
use Rattle.halved.specs.Handed.{halves_of}
use Rattle.halved.proofs.Columns.{halve_none, halve_some}
use Rattle.halved.proofs.Calls.{lent}
use Rattle.halve.proofs.halve.Goals as goal

pub returns-then-k-eq0 : goal.returns-then-k-eq0
returns-then-k-eq0 c =
    let a = c.args in
    halve_none (read_of a.matrix.now a.bits.now a.n) a.n a.omega a.rest.now (halves_of a.w.now a.tally)
    (c.remaining_into-k.ensures.long ∙ c.if-k-eq0.true)

pub slice_bounds-halve_some-end : goal.slice_bounds-halve_some-end
slice_bounds-halve_some-end c = sym (length-take-le _ _ c.remaining_into-k.ensures.within)

pub slice_bounds-halve_some-end-2 : goal.slice_bounds-halve_some-end-2
slice_bounds-halve_some-end-2 c = sym (length-take-le _ _ (omega arith))

pub slice_bounds-halve_some-end-3 : goal.slice_bounds-halve_some-end-3
slice_bounds-halve_some-end-3 c = sym (length-take-le _ _ (omega arith))

pub slice_bounds-halve_some-end-5 : goal.slice_bounds-halve_some-end-5
slice_bounds-halve_some-end-5 c = sym (length-take-le _ _ (omega arith))

pub halve_some-requires : goal.halve_some-requires
halve_some-requires c =
    let v = c.requires in
    let p = c.remaining_into-k.ensures in (
      lent v.0 v.1 v.2 p (length-take-le _ _ (omega arith)) (length-take-le _ _ (omega arith)) (length-take-le _ _ (omega arith)),
      v.3,
    )

pub returns : goal.returns
returns c =
    let a = c.args in
    let p = c.remaining_into-k.ensures in
    halve_some (read_of a.matrix.now a.bits.now a.n) a.n a.omega a.rest.now (halves_of a.w.now a.tally)
    (λ e. c.if-k-eq0.false (sym p.long ∙ e)) _ (rw p.front at c.halve_some.ensures.leaves)
