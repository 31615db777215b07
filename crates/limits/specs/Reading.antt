-- Told between functions: a matrix that is lent as doubles or as bits, of which one list is empty.
use Rattle.std.specs.Prelude.{ℕ, ◌+◌, ◌*◌, ◌≤◌, ◌<◌, ◌≡◌, List, eqb, length, Float}
use Rattle.seq.specs.Choice.{pick}
use Rattle.limits.specs.Matrix.{columns_of}
use Rattle.limits.specs.Votes.{bytes_of, votes_of}

-- the matrix as a function of the column and the row: doubles, or bits where there are any
abbrev pub read_of : List Float → List ℕ → ℕ → ℕ → ℕ → Float
read_of matrix bits n j i = pick (eqb (length bits) 0) (columns_of matrix n j i) (votes_of bits n j i)

-- column j lies in the matrix
pub record Lies (matrix : List Float) (bits : List ℕ) (n j : ℕ) : Type 0 where
  pub doubles : length bits ≡ 0 → j * n + n ≤ length matrix
  pub votes : 0 < length bits → j * bytes_of n + bytes_of n ≤ length bits

-- m columns lie in it
pub record Whole (matrix : List Float) (bits : List ℕ) (m n : ℕ) : Type 0 where
  pub doubles : length bits ≡ 0 → length matrix ≡ m * n
  pub votes : 0 < length bits → length bits ≡ m * bytes_of n
