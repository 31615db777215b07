-- The logarithm's rule, over whole numbers. b is the bits of the argument u, a double above zero, not subnormal, and at most 1.
-- u = m * 2 ^ -e with m from 1 up and below 2; s = (m - 1) / (m + 1) is low b / (low b + 2 ^ 53).
use Rattle.std.specs.Prelude.{ℕ, zero, suc, ◌+◌, ◌-◌, ◌*◌, ◌/◌, ◌%◌, ◌^◌, Bool, true, false, eqb, pos, Float}
use Rattle.std.specs.Float.{fin, binary64}
use Rattle.std.specs.Float.Ieee.{div, neg, of_int, to_bits}
use Rattle.divisors.specs.Divisors.{odd_divisor}

-- (m - 1) * 2 ^ 52: the fraction's field
abbrev pub low : ℕ → ℕ
low b = b % 2 ^ 52

-- e
abbrev pub places : ℕ → ℕ
places b = 1023 - b / 2 ^ 52

-- s * 2 ^ 50, rounded down, of the fraction's field f
unfoldable pub ratio : ℕ → ℕ
ratio f = f * 2 ^ 50 / (f + 2 ^ 53)

-- s * s * 2 ^ 64, rounded down, of q = s * 2 ^ 50
abbrev pub ratio_square : ℕ → ℕ
ratio_square q = q * 2 ^ 14 * (q * 2 ^ 14) / 2 ^ 64

-- s ^ (2k + 1) * 2 ^ 59, each step rounded down
unfoldable pub power : ℕ → ℕ → ℕ
power q zero = q * 2 ^ 9
power q (suc k) = power q k * ratio_square q / 2 ^ 64

-- the first k powers, each by its odd divisor; at k = 21 it stands for A(s) * 2 ^ 58
unfoldable pub odd_sum : ℕ → ℕ → ℕ
unfolding power
odd_sum q zero = 0
odd_sum q (suc k) = odd_sum q k + power q k / odd_divisor k

-- A(1 / 3) * 2 ^ 58, rounded up
abbrev pub third : ℕ
third = 199786072581291495

-- -ln u in units of 1 / 2 ^ 47, rounded down
unfoldable pub depth : ℕ → ℕ
depth b = (places b * third - odd_sum (ratio (low b)) 21) / 2 ^ 11

-- +0.0 where the depth is 0, and else -(d / 2 ^ 47)
abbrev pub lowered : Bool → ℕ → Float
lowered true d = fin false 0 (pos 0)
lowered false d = neg (div binary64 (of_int binary64 (pos d)) (fin false 1 (pos 47)))

-- the logarithm of the double with the bits b, and of the double u
unfoldable pub logarithm_of : ℕ → Float
logarithm_of b = lowered (eqb (depth b) 0) (depth b)

abbrev pub ln_of : Float → Float
ln_of u = logarithm_of (to_bits binary64 u)
