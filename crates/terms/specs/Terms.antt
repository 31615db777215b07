-- The terms of the cosine's series and their sums, over whole numbers: 2 ^ 51 stands for 1 in a term and a sum, 2 ^ 58 for 1 in t * t.
use Rattle.std.specs.Prelude.{ℕ, zero, suc, ◌+◌, ◌*◌, ◌/◌, ◌^◌}
use Rattle.divisors.specs.Divisors.{divisor}

-- term z k stands for t ^ (2k) / (2k)!, each step rounded down; z is the square
unfoldable pub term : ℕ → ℕ → ℕ
term z zero = 2 ^ 51
term z (suc k) = term z k * 64 * z / 2 ^ 64 / divisor k

-- the sum of the terms up to k that have the sign of term k, and the sum of the others
unfoldable pub sums : ℕ → ℕ → ℕ × ℕ
unfolding term
sums z zero = (2 ^ 51, 0)
sums z (suc k) = ((sums z k).1 + term z (suc k), (sums z k).0)
