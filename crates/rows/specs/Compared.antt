-- Told between functions: a lent matrix of the sizes that are taken, and two weight vectors for it.
use Rattle.std.specs.Prelude.{ℕ, ◌≤◌, ◌≡◌, List, length, Float}
use Rattle.limits.specs.Reading.{Whole}

-- a matrix of m columns of n rows, of doubles or of bits, of the sizes that are taken
pub record Lent (matrix : List Float) (bits : List ℕ) (m n : ℕ) : Type 0 where
  pub whole : Whole matrix bits m n
  pub few : m ≤ 256
  pub short : n ≤ 4096

-- two weight vectors for its columns
abbrev pub Compared : List Float → List ℕ → ℕ → List Float → List Float → Type 0
Compared matrix bits n before after = Lent matrix bits (length before) n × (length after ≡ length before)
