-- `linear::max_abs` meets its contract: before each turn it is the largest magnitude of the first i, those that were passed over included.
use Rattle.seq.specs.Sums.{at}
use Rattle.ieee.specs.Magnitude.{max_abs_to}
use Rattle.linear.proofs.Larger.{max-more, max-passed}
use Prim.Native.Nat.{◌+◌}
use mathlib.Core.Path.{◌≡◌, refl, ◌∙◌}
use native.Mathlib.Omega.{arith}
use native.Mathlib.Numerals.{add-one}
use lib.ListN.{length}
use Rattle.linear.proofs.max_abs.Goals as goal

pub loop-i-init : goal.loop-i-init
unfolding max_abs_to
loop-i-init c = (c.next_larger-i.ensures.inside (omega arith), max-passed c.next_larger-i.ensures refl)

pub loop-i-smaller : goal.loop-i-smaller
loop-i-smaller c = omega (arith, c.next_larger-i-in-loop-i.ensures.low)

pub loop-i-preserved : goal.loop-i-preserved
loop-i-preserved c =
    let v = at c.args.a.now in
    let here : c.larger-most.result ≡ max_abs_to v (c.loop-i.i + 1) =
    c.larger-most.ensures ∙ rw (add-one, max-more, c.loop-i.invariant.1, c.abs.ensures) in
    (c.next_larger-i-in-loop-i.ensures.inside (omega arith), max-passed c.next_larger-i-in-loop-i.ensures here)

pub returns : goal.returns
returns c =
    let done : c.loop-i.i ≡ length c.args.a.now = omega arith in
    rw (← done) c.loop-i.invariant.1
