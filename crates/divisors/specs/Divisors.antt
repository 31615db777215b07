-- The divisors of the two series, and the one table that holds them.
use Rattle.std.specs.Prelude.{ℕ, ◌+◌, ◌-◌, ◌*◌, cond, ltb}

-- what the cosine's term t ^ (2k) / (2k)! is divided by on the way to the next
abbrev pub divisor : ℕ → ℕ
divisor k = (2 * k + 1) * (2 * k + 2)

-- what the logarithm's power s ^ (2k + 1) is divided by
abbrev pub odd_divisor : ℕ → ℕ
odd_divisor k = 2 * k + 1

-- the table's entry k: the cosine's 20 divisors, and then the logarithm's
abbrev pub divisor_at : ℕ → ℕ
divisor_at k = cond (ltb k 20) (divisor k) (odd_divisor (k - 20))
