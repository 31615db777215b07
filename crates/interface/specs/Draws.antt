-- What a draw answers, and the state that it leaves in place.
use Rattle.std.specs.Prelude.{ℕ, ◌≡◌, Float}
use Rattle.draw.specs.SplitMix.{seeded, after_of}
use Rattle.draw.specs.Uniform.{uniform_in}
use Rattle.draw.specs.Gaussian.{gaussian_of, after_gaussian}

-- r is the uniform draw of an edition from a state, and state' the state after it
pub record UniformDrawn (state edition : ℕ) (r : Float) (state' : ℕ) : Type 0 where
  pub value : r ≡ uniform_in (seeded state edition)
  pub moved : state' ≡ (after_of (seeded state edition)).state

-- so for the Gaussian draw
pub record GaussianDrawn (state edition : ℕ) (r : Float) (state' : ℕ) : Type 0 where
  pub value : r ≡ gaussian_of (seeded state edition)
  pub moved : state' ≡ (after_gaussian (seeded state edition)).state
