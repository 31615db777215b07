-- The worked cases C10 and C11, computed: where the state becomes 0, and the two largest uniforms. Beside them the ends of edition 2.
use Rattle.std.proofs.Common.{◌≡◌, ◌-◌, ◌^◌, false, pos, negsuc, refl}
use lib.Ieee.{fin, add, div, of_int, to_bits}
use Rattle.logarithm.specs.Logarithm.{power, odd_sum, ratio, depth, logarithm_of, ln_of}
use Rattle.draw.specs.SplitMix.{advanced, scrambled, mixed, seeded, output_of, after_of}
use Rattle.draw.specs.Uniform.{uniform_at, uniform_of, uniform_in}

-- C10: the seed whose state becomes 0; the output is 0, and the uniform 2 ^ -54
pub state_becomes_zero : let rng = seeded 0x61C8_8646_80B5_83EB 1 in
    ((after_of rng).state ≡ 0) × (output_of rng ≡ 0) × (uniform_in rng ≡ fin false 1 (negsuc 53))
unfolding advanced scrambled mixed output_of after_of uniform_at uniform_of uniform_in add div of_int
state_becomes_zero = (refl, refl, refl)

-- C11: the largest n gives 1, and the one below it 1 - 2 ^ -52
pub largest : (uniform_at 53 (2 ^ 53 - 1) ≡ fin false 1 (pos 0)) × (uniform_at 53 (2 ^ 53 - 2) ≡ fin false (2 ^ 52 - 1) (negsuc 51))
unfolding uniform_at add div of_int
largest = (refl, refl)

-- edition 2: the least uniform is 2 ^ -53, and the largest 1 - 2 ^ -53
pub ends_of_second : (uniform_at 52 0 ≡ fin false 1 (negsuc 52)) × (uniform_at 52 (2 ^ 52 - 1) ≡ fin false (2 ^ 53 - 1) (negsuc 52))
unfolding uniform_at add div of_int
ends_of_second = (refl, refl)

-- edition 2: the largest uniform is below 1, and the rule of the logarithm gives +0.0 there all the same
pub zero_below_one : ln_of (uniform_at 52 (2 ^ 52 - 1)) ≡ fin false 0 (pos 0)
unfolding uniform_at add div of_int to_bits logarithm_of depth odd_sum power ratio
zero_below_one = refl
