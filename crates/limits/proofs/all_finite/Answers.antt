-- `limits::all_finite` meets its contract: after i turns it says whether the first i numbers are finite.
use Rattle.seq.specs.Keep.{all_to}
use mathlib.Core.Path.{◌≡◌, refl}
use native.Mathlib.Omega.{arith}
use native.Mathlib.Numerals.{add-one}
use lib.ListN.{length}
use Rattle.limits.proofs.all_finite.Goals as goal

pub loop-x-init : goal.loop-x-init
unfolding all_to
loop-x-init c = refl

pub loop-x-preserved : goal.loop-x-preserved
unfolding all_to
loop-x-preserved c = rw (add-one, c.loop-x.invariant, c.is_finite-ok.ensures) refl

pub returns : goal.returns
returns c =
    let done : c.loop-x.x-index ≡ length c.args.v.now = omega arith in
    rw (← done) c.loop-x.invariant
