-- The Gaussian draw, by the Box and Muller transform of two uniform draws. Each operation is rounded once.
use Rattle.std.specs.Prelude.{ℕ, false, pos, Float}
use Rattle.std.specs.Float.{fin, binary64}
use Rattle.std.specs.Float.Ieee.{mul, neg}
use Rattle.root.specs.Root.{sqrt_of}
use Rattle.cosine.specs.Cosine.{cos_of, tau}
use Rattle.logarithm.specs.Logarithm.{ln_of}
use Rattle.draw.specs.declared.SplitMix64.{SplitMix64}
use Rattle.draw.specs.SplitMix.{after_of}
use Rattle.draw.specs.Uniform.{uniform_of, uniform_in}

-- the logarithm of the uniform of an output, by the edition
abbrev pub ln_of_draw : ℕ → ℕ → Float
ln_of_draw edition word = ln_of (uniform_of edition word)

-- the cosine of TAU times the uniform of an output, by the edition
abbrev pub cos_of_draw : ℕ → ℕ → Float
cos_of_draw edition word = cos_of (mul binary64 tau (uniform_of edition word))

-- sqrt(-2 ln u1) * cos(TAU * u2)
abbrev pub box_muller : Float → Float → Float
box_muller u1 u2 = mul binary64 (sqrt_of (mul binary64 (neg (fin false 1 (pos 1))) (ln_of u1))) (cos_of (mul binary64 tau u2))

-- the Gaussian that a generator gives: u1 is drawn, and then u2
unfoldable pub gaussian_of : SplitMix64 → Float
gaussian_of rng = box_muller (uniform_in rng) (uniform_in (after_of rng))

-- the generator that it leaves behind
unfoldable pub after_gaussian : SplitMix64 → SplitMix64
after_gaussian rng = after_of (after_of rng)
