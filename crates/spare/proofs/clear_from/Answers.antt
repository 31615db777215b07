-- `spare::clear_from` meets its contract: after i turns it says whether the first i bits are clear.
use mathlib.Core.Path.{◌≡◌, refl}
use native.Mathlib.Omega.{arith}
use native.Mathlib.Numerals.{add-one}
use Rattle.seq.specs.Keep.{all_to}
use Rattle.limits.proofs.Spare.{clear_bit}
use Rattle.spare.proofs.clear_from.Goals as goal

pub loop-i-init : goal.loop-i-init
unfolding all_to
loop-i-init c = refl

pub loop-i-preserved : goal.loop-i-preserved
unfolding all_to
loop-i-preserved c = rw (
  add-one,
  c.loop-i.invariant,
  clear_bit c.bit.result
      (omega (arith, c.bit.ensures)),
  c.bit.ensures,
  c.from.ensures,
) refl

pub returns : goal.returns
returns c =
    let done : c.loop-i.i ≡ c.args.k = omega arith in
    rw (← done) c.loop-i.invariant
