-- Told between functions: columns that A g may leave out.
use Rattle.std.specs.Prelude.{ℕ, ◌+◌, ◌≤◌, ◌<◌, List, T, length, Float}
use Rattle.std.specs.Float.Ieee.Scale.{finite}
use Rattle.seq.specs.Sums.{at}
use Rattle.ieee.specs.Flat.{is_zero}

-- from `from` up to r, g is a zero and the scale finite; r is past the end only where `from` is
pub record PassedOver (scale g : List Float) (from r : ℕ) : Type 0 where
  pub low : from ≤ r
  pub high : r ≤ from + length g
  pub inside : from ≤ length g → r ≤ length g
  pub nothing : (k : ℕ) → from ≤ k → k < r → T (is_zero (at g k)) × T (finite (at scale k))
