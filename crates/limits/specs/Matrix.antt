-- A lent matrix as a function of the column and the row.
use Rattle.std.specs.Prelude.{ℕ, ◌+◌, ◌*◌, List, Float}
use Rattle.seq.specs.Sums.{at}

-- column after column, each n long
abbrev pub columns_of : List Float → ℕ → ℕ → ℕ → Float
columns_of matrix n j i = at matrix (j * n + i)
