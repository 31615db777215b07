-- Every row's change between two weight vectors. A matrix is a function of the column and the row.
use Rattle.std.specs.Prelude.{ℕ, ◌≡◌, true, List, [], length, Float}
use Rattle.seq.specs.Lists.{tabulate}
use Rattle.limits.specs.Limits.{bounded}
use Rattle.ieee.specs.Constants.{one}
use Rattle.change.specs.Margins.{change_to}
use Rattle.rows.specs.Compared.{Lent}

-- the changes of n rows over m columns, in row order
unfoldable pub changes_of : (ℕ → ℕ → Float) → ℕ → ℕ → List Float → List Float → List Float
changes_of matrix m n before after = tabulate (λ i. change_to matrix before after i m) n

-- a matrix and weights that are not refused: of their sizes, and nothing above 1 in magnitude
pub record Taken (matrix : List Float) (m n : ℕ) (before after : List Float) : Type 0 where
  pub lent : Lent matrix [] m n
  pub first : length before ≡ m
  pub second : length after ≡ m
  pub entries : bounded one matrix ≡ true
  pub old : bounded one before ≡ true
  pub new : bounded one after ≡ true
