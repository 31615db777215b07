-- Told between functions: places that the search for the largest magnitude may pass over.
use Rattle.std.specs.Prelude.{ℕ, ◌≤◌, ◌<◌, ◌≡◌, false, List, length, Float}
use Rattle.std.specs.Float.Ieee.{lt}
use Rattle.seq.specs.Sums.{at}
use Rattle.ieee.specs.Magnitude.{abs_of}

-- from `from` up to r no magnitude is above `most`; r is past the end only where `from` is
pub record NoLarger (a : List Float) (most : Float) (from r : ℕ) : Type 0 where
  pub low : from ≤ r
  pub inside : from ≤ length a → r ≤ length a
  pub none : (k : ℕ) → from ≤ k → k < r → lt most (abs_of (at a k)) ≡ false
