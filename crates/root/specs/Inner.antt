-- Told between functions: how many digits the root's code starts from.
use Rattle.std.specs.Prelude.{ℕ, ◌+◌, ◌*◌, ◌^◌, ◌≤◌, ◌<◌, ◌≡◌}

-- t * 2 ^ k is m * 2 ^ j / 2 ^ 52, and m has 53 digits
pub record Normal (t k m j : ℕ) : Type 0 where
  pub full : 2 ^ 52 ≤ m
  pub short : m < 2 ^ 53
  pub near : j ≤ k + 52
  pub same : m * 2 ^ j ≡ t * 2 ^ (k + 52)
