-- The change of the margins between two weight vectors, measured at the worst row.
-- A matrix is a function of the column and the row.
use Rattle.std.specs.Prelude.{ℕ, zero, suc, List, Float}
use Rattle.std.specs.Float.{binary64}
use Rattle.std.specs.Float.Ieee.{add, sub, mul, ne}
use Rattle.seq.specs.Choice.{pick}
use Rattle.seq.specs.Sums.{plus_zero, at}
use Rattle.ieee.specs.Magnitude.{max_abs_to}

-- the running sum of matrix (before - after) at row i over the columns below k, from +0.0; a difference that is 0 is skipped
unfoldable pub change_to : (ℕ → ℕ → Float) → List Float → List Float → ℕ → ℕ → Float
change_to matrix before after i zero = plus_zero
change_to matrix before after i (suc k) =
    let r : Float = change_to matrix before after i k in
    let d : Float = sub binary64 (at before k) (at after k) in
    pick (ne d plus_zero) (add binary64 r (mul binary64 (matrix k i) d)) r

-- the largest magnitude of a change, of m columns and n rows
unfoldable pub max_change : (ℕ → ℕ → Float) → ℕ → ℕ → List Float → List Float → Float
max_change matrix m n before after = max_abs_to (λ i. change_to matrix before after i m) n
