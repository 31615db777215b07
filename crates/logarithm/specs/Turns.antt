-- Told between functions: where the series stands, and what one turn asks and does.
use Rattle.std.specs.Prelude.{ℕ, ◌+◌, ◌*◌, ◌/◌, ◌^◌, ◌≤◌, ◌<◌, ◌≡◌}
use Rattle.logarithm.specs.declared.LnTerms.{LnTerms}
use Rattle.logarithm.specs.Logarithm.{power, odd_sum}

-- s has the logarithm's power k at the ratio q, and the sum of the powers below it, each by its divisor
pub record LnAt (q k : ℕ) (s : LnTerms) : Type 0 where
  pub power_is : s.power ≡ power q k
  pub sum_is : s.sum ≡ odd_sum q k

-- what a turn of the logarithm asks: nothing in it wraps
pub record LnReady (d : ℕ) (s : LnTerms) : Type 0 where
  pub divides : 2 ≤ d
  pub product-fits : s.power * d < 2 ^ 64
  pub power-fits : s.power < 2 ^ 58
  pub sum_fits : s.sum < 2 ^ 63

-- what it does: this power by d is added to the sum, and the next power is made
pub record LnTurned (w d : ℕ) (s r : LnTerms) : Type 0 where
  pub power_is : r.power ≡ s.power * w / 2 ^ 64
  pub sum_is : r.sum ≡ s.sum + s.power / d
