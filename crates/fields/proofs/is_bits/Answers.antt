-- `fields::is_bits` meets its contract: after k turns it says whether the first k bytes are digits of base 16.
use mathlib.Core.Path.{◌≡◌, refl}
use native.Mathlib.Omega.{arith}
use native.Mathlib.Numerals.{add-one}
use Rattle.seq.specs.Keep.{all_to}
use Rattle.fields.specs.Fields.{is_bits}
use Rattle.fields.proofs.is_bits.Goals as goal

pub loop-k-init : goal.loop-k-init
unfolding all_to
loop-k-init c = refl

pub loop-k-preserved : goal.loop-k-preserved
unfolding all_to
loop-k-preserved c = rw (add-one, c.loop-k.invariant, c.is_letter.ensures, c.is_digit.ensures, c.byte_at-b.ensures) refl

pub returns : goal.returns
unfolding is_bits
returns c =
    let done : c.loop-k.k ≡ 16 = omega arith in
    rw (← done) c.loop-k.invariant
