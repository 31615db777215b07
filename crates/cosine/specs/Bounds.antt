-- What the cosine's rule is held to: the exact sums, as fractions of whole numbers, and how near a draw has to be to them.
use Rattle.std.specs.Prelude.{ℕ, zero, suc, ◌+◌, ◌*◌, ◌^◌, ◌≤◌, Bool, true, false, Float}
use Rattle.std.specs.Float.Ieee.Exact.{HasValue}
use Rattle.divisors.specs.Divisors.{divisor}

-- the denominator of the sum through t ^ (2k), where t * t is the fraction n / d: d ^ k * (2k)!
unfoldable pub under : ℕ → ℕ → ℕ
under d zero = 1
under d (suc k) = under d k * (d * divisor k)

-- the numerators of that sum: of the terms that have the sign of the last one, and of the others
unfoldable pub exact : ℕ → ℕ → ℕ → ℕ × ℕ
exact n d zero = (1, 0)
exact n d (suc k) = ((exact n d k).1 * (d * divisor k) + n ^ suc k, (exact n d k).0 * (d * divisor k))

-- w / 2 ^ 51 is within 64 / 2 ^ 51 = 1 / 2 ^ 45 of (a - b) / u
pub record Within (w a b u : ℕ) : Type 0 where
  pub above : w * u + 2 ^ 51 * b ≤ 2 ^ 51 * a + 64 * u
  pub below : 2 ^ 51 * a ≤ w * u + 2 ^ 51 * b + 64 * u

-- the same of w / 2 ^ 51 with a sign
abbrev pub Close : Bool → ℕ → ℕ → ℕ → ℕ → Type 0
Close false w a b u = Within w a b u
Close true w a b u = Within w b a u

-- The double r is a good cosine of the double t: t is x / 2 ^ 1075, r is ±w / 2 ^ 51, which lies in [-1, 1],
-- and r is within 1 / 2 ^ 45 of the exact sums through t ^ 40 and through t ^ 42.
pub record CosineMeets (t r : Float) : Type 0 where
  pub x : ℕ
  pub w : ℕ
  pub sign : Bool
  pub argument : HasValue t false x (2 ^ 1075)
  pub result : HasValue r sign w (2 ^ 51)
  pub inside : w ≤ 2 ^ 51
  pub forty : Close sign w (exact (x * x) (2 ^ 2150) 20).0 (exact (x * x) (2 ^ 2150) 20).1 (under (2 ^ 2150) 20)
  pub forty_two : Close sign w (exact (x * x) (2 ^ 2150) 21).1 (exact (x * x) (2 ^ 2150) 21).0 (under (2 ^ 2150) 21)
