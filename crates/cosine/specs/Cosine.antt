-- The cosine's rule, over whole numbers: 2 ^ 51 stands for 1 in a term and a sum, 2 ^ 58 for 1 in t * t. The terms and the sums are
-- the crate terms's.
-- b is the bits of the argument t, a double above zero that is not subnormal.
use Rattle.std.specs.Prelude.{ℕ, ◌+◌, ◌-◌, ◌*◌, ◌/◌, ◌%◌, ◌^◌, min, Bool, true, false, not, cond, leb, pos, Float}
use Rattle.std.specs.Float.{fin, binary64}
use Rattle.std.specs.Float.Ieee.{div, neg, of_int, of_bits, to_bits}
use Rattle.terms.specs.Terms.{sums}

-- t is whole b / 2 ^ 1075
abbrev pub whole : ℕ → ℕ
whole b = (b % 2 ^ 52 + 2 ^ 52) * 2 ^ (b / 2 ^ 52)

-- t * 2 ^ 61, rounded down
abbrev pub scaled : ℕ → ℕ
scaled b = whole b / 2 ^ 1014

-- t * t * 2 ^ 58, rounded down
abbrev pub square : ℕ → ℕ
square b = scaled b * scaled b / 2 ^ 64

-- the size of the cosine in units of 1 / 2 ^ 51, cut at 2 ^ 51
abbrev pub size : ℕ → ℕ
size z = cond (leb (sums z 20).1 (sums z 20).0) (min ((sums z 20).0 - (sums z 20).1) (2 ^ 51)) (min ((sums z 20).1 - (sums z 20).0) (2 ^ 51))

-- whether the cosine is below zero
abbrev pub negative : ℕ → Bool
negative z = not (leb (sums z 20).1 (sums z 20).0)

-- w / 2 ^ 51 as a double
abbrev pub unit_of : ℕ → Float
unit_of w = div binary64 (of_int binary64 (pos w)) (fin false 1 (pos 51))

-- x, or -x where the sign is set
abbrev pub signed : Bool → Float → Float
signed false x = x
signed true x = neg x

-- the cosine of the double with the bits b, and of the double t
unfoldable pub cosine_of : ℕ → Float
cosine_of b = signed (negative (square b)) (unit_of (size (square b)))

abbrev pub cos_of : Float → Float
cos_of t = cosine_of (to_bits binary64 t)

-- a full turn, 2π rounded to a double
abbrev pub tau : Float
tau = of_bits binary64 0x4019_21FB_5444_2D18
