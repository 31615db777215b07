-- The generator: the published SplitMix64 (Steele, Lea and Flood, 2014), over whole numbers below 2 ^ 64.
-- It is its state and the edition of its draws.
use Rattle.std.specs.Prelude.{ℕ, ◌+◌, ◌*◌, ◌/◌, ◌%◌, ◌^◌, bit_xor}
use Rattle.draw.specs.declared.SplitMix64.{SplitMix64}

-- the state after one step: it gains an odd constant, modulo 2 ^ 64
unfoldable pub advanced : ℕ → ℕ
advanced s = (s + 0x9E37_79B9_7F4A_7C15) % 2 ^ 64

-- z, with its own digits moved down by k places folded into it by exclusive or
abbrev pub folded : ℕ → ℕ → ℕ
folded k z = bit_xor z (z / 2 ^ k)

-- folded, and then multiplied by c, modulo 2 ^ 64
unfoldable pub scrambled : ℕ → ℕ → ℕ → ℕ
scrambled k c z = folded k z * c % 2 ^ 64

-- how the output is mixed from the state: scrambled twice, and folded once more
unfoldable pub mixed : ℕ → ℕ
mixed z = folded 31 (scrambled 27 0x94D0_49BB_1331_11EB (scrambled 30 0xBF58_476D_1CE4_E5B9 z))

-- the generator that starts at a seed
abbrev pub seeded : ℕ → ℕ → SplitMix64
seeded seed edition = record { state = seed; edition = edition }

-- the output that a generator gives, and the generator that it leaves behind; the edition stays
unfoldable pub output_of : SplitMix64 → ℕ
output_of rng = mixed (advanced rng.state)

unfoldable pub after_of : SplitMix64 → SplitMix64
after_of rng = record { state = advanced rng.state; edition = rng.edition }
