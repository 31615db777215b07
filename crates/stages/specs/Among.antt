-- What a later stage has to do with an earlier one.
use Rattle.std.specs.Prelude.{ℕ, ◌<◌, ◌≡◌, true, List, length, Float}
use Rattle.std.specs.Float.Ieee.{lt}
use Rattle.seq.specs.Sums.{plus_zero, at}
use Rattle.weights.specs.Weights.{is_on}

-- every entry that is not 0 after was not 0 before, and has the sign that it had
pub record Among (before after : List Float) : Type 0 where
  pub on : (j : ℕ) → j < length before → is_on after j ≡ true → is_on before j ≡ true
  pub above : (j : ℕ) → j < length before → is_on after j ≡ true → lt plus_zero (at after j) ≡ lt plus_zero (at before j)
  pub under : (j : ℕ) → j < length before → is_on after j ≡ true → lt (at after j) plus_zero ≡ lt (at before j) plus_zero
