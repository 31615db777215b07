-- What the logarithm's rule is held to: the exact sum, as a fraction of whole numbers, and how near a draw has to be to it.
use Rattle.std.specs.Prelude.{ℕ, zero, suc, ◌+◌, ◌-◌, ◌*◌, ◌^◌, ◌≤◌, ◌<◌, false, not, eqb, Float}
use Rattle.std.specs.Float.Ieee.Exact.{HasValue}
use Rattle.divisors.specs.Divisors.{odd_divisor}

-- a fraction, as its numerator and its denominator
abbrev pub Fraction : Type 0
Fraction = ℕ × ℕ

-- the sum of two fractions
abbrev pub sum_of : Fraction → Fraction → Fraction
sum_of x y = (x.0 * y.1 + y.0 * x.1, x.1 * y.1)

-- the sum of (p / q) ^ i / i over the first k odd i; A(p / q) is twice that, at k = 21
unfoldable pub odds : ℕ → ℕ → ℕ → Fraction
odds p q zero = (0, 1)
odds p q (suc k) = sum_of (odds p q k) (p ^ odd_divisor k, q ^ odd_divisor k * odd_divisor k)

-- -y / 2 ^ 47 is within 1 / 2 ^ 40 of 2 * x - e * (2 * t)
pub record LogNear (y e : ℕ) (x t : Fraction) : Type 0 where
  pub above : y * (x.1 * t.1) + 2 ^ 48 * (x.0 * t.1) ≤ 2 ^ 48 * (e * t.0 * x.1) + 2 ^ 7 * (x.1 * t.1)
  pub below : 2 ^ 48 * (e * t.0 * x.1) ≤ y * (x.1 * t.1) + 2 ^ 48 * (x.0 * t.1) + 2 ^ 7 * (x.1 * t.1)

-- The double r is a good logarithm of the double u: u is m * 2 ^ -e with m = (f + 2 ^ 52) / 2 ^ 52, from 1 up and below 2,
-- so that s = (m - 1) / (m + 1) is f / (f + 2 ^ 53); r is -y / 2 ^ 47, or +0.0 where y is 0, and so never positive;
-- and r is within 1 / 2 ^ 40 of A(s) - e * A(1 / 3).
pub record LogarithmMeets (u r : Float) : Type 0 where
  pub f : ℕ
  pub e : ℕ
  pub y : ℕ
  pub fraction : f < 2 ^ 52
  pub exponent : e ≤ 54
  pub argument : HasValue u false ((f + 2 ^ 52) * 2 ^ (1023 - e)) (2 ^ 1075)
  pub result : HasValue r (not (eqb y 0)) y (2 ^ 47)
  pub near : LogNear y e (odds f (f + 2 ^ 53) 21) (odds 1 3 21)
