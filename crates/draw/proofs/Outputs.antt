-- An output has 64 bits.
use Rattle.std.proofs.Common.{ℕ, ◌*◌, ◌/◌, ◌^◌, ◌<◌, lt_of_le_of_lt, mod-lt, div-le_self, lit<}
use lib.Bits.{xor_lt}
use Rattle.draw.specs.declared.SplitMix64.{SplitMix64}
use Rattle.draw.specs.SplitMix.{advanced, folded, scrambled, mixed, output_of}

folded-lt : (z : ℕ) → z < 2 ^ 64 → folded 31 z < 2 ^ 64
folded-lt z h = xor_lt 64 z (z / 2 ^ 31) h (lt_of_le_of_lt (div-le_self z (2 ^ 31)) h)

scrambled-lt : (k c z : ℕ) → scrambled k c z < 2 ^ 64
unfolding scrambled
scrambled-lt k c z = mod-lt (folded k z * c) (lit< tt)

pub output-lt : (rng : SplitMix64) → output_of rng < 2 ^ 64
unfolding output_of mixed
output-lt rng = folded-lt _ (scrambled-lt 27 0x94D0_49BB_1331_11EB (scrambled 30 0xBF58_476D_1CE4_E5B9 (advanced rng.state)))
