-- How far a colouring moves the generator.
use Rattle.std.specs.Prelude.{ℕ, zero, suc, ◌*◌, ◌≤◌, ◌≡◌}
use Rattle.draw.specs.SplitMix.{after_of}
use Rattle.direction.specs.Direction.{after_draws}
use Rattle.draw.specs.declared.SplitMix64.{SplitMix64}

-- the generator after k outputs
unfoldable pub after_outputs : SplitMix64 → ℕ → SplitMix64
after_outputs rng zero = rng
after_outputs rng (suc k) = after_of (after_outputs rng k)

-- from rng to the generator after it lie so many Gaussians, at most k for each direction, and twice as many outputs
pub record Moved (k directions : ℕ) (rng after : SplitMix64) : Type 0 where
  pub gaussians : ℕ
  pub most : gaussians ≤ k * directions
  pub stands : after ≡ after_draws rng gaussians
  pub outputs : after ≡ after_outputs rng (2 * gaussians)
