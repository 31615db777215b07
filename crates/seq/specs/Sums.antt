-- Running sums of doubles, in order. What a sum starts from is its first argument.
use Rattle.std.specs.Prelude.{ℕ, zero, suc, List, get_or, Float}
use Rattle.std.specs.Float.{nan, Format, binary64}
use Rattle.std.specs.Float.Ieee.{of_bits, add, mul}

-- +0.0, from which every sum of the port starts
abbrev pub plus_zero : Float
plus_zero = of_bits binary64 0

-- -0.0, from which a sum may start in another toolchain
abbrev pub minus_zero : Float
minus_zero = of_bits binary64 0x8000_0000_0000_0000

-- z + v 0 + .. + v (k - 1), each sum rounded to the format
unfoldable pub sum_from : Format → Float → (ℕ → Float) → ℕ → Float
sum_from f z v zero = z
sum_from f z v (suc k) = add f (sum_from f z v k) (v k)

-- the same in doubles
abbrev pub sum_to : Float → (ℕ → Float) → ℕ → Float
sum_to z v k = sum_from binary64 z v k

-- an element of a list of doubles
abbrev pub at : List Float → ℕ → Float
at a i = get_or a i nan

-- the products of two lists, element by element
abbrev pub product : List Float → List Float → ℕ → Float
product a b i = mul binary64 (at a i) (at b i)
