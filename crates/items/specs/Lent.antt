-- Told between functions: a matrix that is lent as doubles or as bits, and the doubles that it stands for.
use Rattle.std.specs.Prelude.{ℕ, ◌≡◌, true, List, eqb, length, Float}
use Rattle.seq.specs.Choice.{pick}
use Rattle.ieee.specs.Constants.{one}
use Rattle.limits.specs.Limits.{bounded}
use Rattle.limits.specs.Votes.{expanded}
use Rattle.limits.specs.Reading.{Whole}

-- the doubles, or what the bits stand for where there are any
abbrev pub lent_as : List Float → List ℕ → ℕ → ℕ → List Float
lent_as matrix bits m n = pick (eqb (length bits) 0) matrix (expanded bits m n)

-- m columns lie in it, and no double outside [-1, 1]
pub record Lent (matrix : List Float) (bits : List ℕ) (m n : ℕ) : Type 0 where
  pub whole : Whole matrix bits m n
  pub small : bounded one matrix ≡ true
