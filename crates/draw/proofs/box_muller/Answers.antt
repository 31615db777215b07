-- `draw::box_muller` meets its contract: what each call ensures, put together as the definition puts it.
use Rattle.std.proofs.Common.{◌≡◌, false, pos, refl}
use lib.Ieee.{Float, fin, binary64, mul, neg, of_bits}
use Rattle.root.specs.Root.{sqrt_of}
use Rattle.cosine.specs.Cosine.{cos_of, tau}
use Rattle.logarithm.specs.Logarithm.{ln_of}
use Rattle.draw.specs.Gaussian.{box_muller}
use Rattle.cosine.proofs.Differences.{unit_is}
use Rattle.draw.proofs.Values.{draw-bits, angle_bits}
use Rattle.draw.proofs.box_muller.Goals as goal

two : of_bits binary64 0x4000_0000_0000_0000 ≡ fin false 1 (pos 1)
unfolding of_bits
two = refl

together : (u v : Float) {l r x : Float} → l ≡ ln_of u → r ≡ sqrt_of (mul binary64 (neg (of_bits binary64 0x4000_0000_0000_0000)) l)
    → x ≡ cos_of (mul binary64 tau v) → mul binary64 r x ≡ box_muller u v
together u v l r x = rw (r, x, l, two)

pub ln-l-requires : goal.ln-l-requires
ln-l-requires c = draw-bits c.requires.0

pub cos_sums-s-requires : goal.cos_sums-s-requires
cos_sums-s-requires c = angle_bits c.requires.1

pub returns : goal.returns
returns c = together _ _ c.ln-l.ensures c.sqrt.ensures (unit_is _ c.cos_sums-s.ensures.0 c.unit.ensures)
