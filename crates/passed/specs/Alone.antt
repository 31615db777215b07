-- A lone weight: of some weights the largest by magnitude is left, at 1.0 or -1.0, and every other is 0.
use Rattle.std.specs.Prelude.{ℕ, ◌<◌, ◌≡◌, true, false, List, length, Float}
use Rattle.seq.specs.Sums.{plus_zero, at}
use Rattle.ieee.specs.Magnitude.{signum_of}
use Rattle.weights.specs.Weights.{is_on}
use Rattle.ranking.specs.Ranking.{heavier}

-- weight k is not 0, and comes before every other that is not: the largest by magnitude, of equal ones the first
pub record Largest (w : List Float) (k : ℕ) : Type 0 where
  pub under : k < length w
  pub on : is_on w k ≡ true
  pub first : (j : ℕ) → j < length w → is_on w j ≡ true → (j ≡ k → ⊥) → heavier w k j ≡ true

-- after a pass weight k alone is not 0: it is 1.0 with the sign that it had, and what the pass took away is +0.0
pub record Alone (w after : List Float) (k : ℕ) : Type 0 where
  pub long : length after ≡ length w
  pub there : at after k ≡ signum_of (at w k)
  pub gone : (j : ℕ) → j < length w → is_on w j ≡ true → (j ≡ k → ⊥) → at after j ≡ plus_zero
  pub off : (j : ℕ) → j < length w → (j ≡ k → ⊥) → is_on after j ≡ false
