-- The uniform draw, of an output's upper bits. Edition 1 is from 2 ^ -54 up and at most 1, edition 2 strictly between 0 and 1.
use Rattle.std.specs.Prelude.{ℕ, ◌-◌, ◌/◌, ◌^◌, false, cond, pos, negsuc, ◌==◌, Float}
use Rattle.std.specs.Float.{fin, binary64}
use Rattle.std.specs.Float.Ieee.{add, div, of_int}
use Rattle.draw.specs.declared.SplitMix64.{SplitMix64}
use Rattle.draw.specs.SplitMix.{output_of}

-- how many bits an edition takes: 52 in edition 2, and 53 in edition 1. No call lets another edition through; here it would draw as 1.
abbrev pub bits_of : ℕ → ℕ
bits_of edition = cond (edition == 2) 52 53

-- (n + 0.5) / 2 ^ d: each operation is rounded once. With 53 bits the sum may be inexact; with 52 neither operation is.
unfoldable pub uniform_at : ℕ → ℕ → Float
uniform_at d n = div binary64 (add binary64 (of_int binary64 (pos n)) (fin false 1 (negsuc 0))) (fin false 1 (pos d))

-- the uniform of an output, by the edition
unfoldable pub uniform_of : ℕ → ℕ → Float
uniform_of edition word = let d : ℕ = bits_of edition in uniform_at d (word / 2 ^ (64 - d))

-- the uniform that a generator gives
unfoldable pub uniform_in : SplitMix64 → Float
uniform_in rng = uniform_of rng.edition (output_of rng)
