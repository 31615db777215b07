-- `places::free_places` meets its contract: after j turns the places of the set marks below j stand at the front, which is what `keep` says.
use Rattle.seq.proofs.Keeping.{none, push, keeps, skips}
use borrow.Author.Tests.{eq-eqb, ne_eqb}
use Rattle.seq.specs.Keep.{keep}
use Rattle.seq.specs.Marks.{is_set}
use mathlib.Core.Path.{◌≡◌}
use native.Mathlib.Omega.{arith}
use lib.ListN.{length}
use Rattle.places.proofs.free_places.Goals as goal
use Rattle.places.proofs.free_places.Goals.{then-mark-eq1, else-mark-eq1}

pub loop-j-init : goal.loop-j-init
unfolding keep
loop-j-init c = (omega arith, none _)

pub loop-j-preserved : goal.loop-j-preserved
loop-j-preserved c =
    let v = c.loop-j.invariant in
    let j = c.loop-j.j in
    let f = is_set c.args.free.now in
    elim c.if-mark-eq1.branch [
      | then-mark-eq1 w ↦ rw (w.places-is, w.l-is, keeps f j (eq-eqb _ _ w.if-mark-eq1.true)) (omega arith, push j v.1 (omega arith))
      | else-mark-eq1 w ↦ rw (w.places-is, w.l-is, skips f j (ne_eqb _ _ w.if-mark-eq1.false)) (omega arith, v.1)
    ]

pub returns : goal.returns
returns c =
    let done : c.loop-j.j ≡ length c.args.free.now = omega arith in
    rw (← done) c.loop-j.invariant.1
