-- `doubling::remaining_into` meets its contract: after some turns out holds those of the first indices whose weights are not 0.
use mathlib.Core.Path.{◌≡◌}
use native.Mathlib.Omega.{arith}
use lib.ListN.{length, get_or}
use Rattle.seq.proofs.Keeping.{none, push}
use Rattle.weights.specs.Weights.{is_on}
use Rattle.doubling.specs.Doubling.{those_to}
use Rattle.doubling.proofs.Turns.{chooses, leaves}
use Rattle.doubling.proofs.remaining_into.Goals as goal
use Rattle.doubling.proofs.remaining_into.Goals.{then-w-j, else-w-j}

pub loop-j-init : goal.loop-j-init
unfolding those_to
loop-j-init c = (none _, omega arith)

pub loop-j-preserved : goal.loop-j-preserved
loop-j-preserved c =
    let v = c.loop-j.invariant in
    let p = c.loop-j.j-index in
    let r = c.args.rest.now in
    let f = is_on c.args.w.now in
    elim c.if-w-j.branch [
      | then-w-j t ↦ rw (t.out-is, t.k-is, chooses f r p t.if-w-j.true) (push (get_or r p 0) v.0 (omega arith), omega arith)
      | else-w-j t ↦ rw (t.out-is, t.k-is, leaves f r p t.if-w-j.false) (v.0, omega arith)
    ]

pub returns : goal.returns
returns c =
    let done : c.loop-j.j-index ≡ length c.args.rest.now = omega arith in
    rw (← done) c.loop-j.invariant.0
