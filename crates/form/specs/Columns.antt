-- Told between functions: what the lines of a sheet's columns are written from, and the room for them.
use Rattle.std.specs.Prelude.{ℕ, ◌*◌, ◌≤◌, ◌≡◌, List, length}

-- the weights and the entries of at most 32 columns of n rows, and room for their lines from i on, where the first line ends
pub record ColumnsLent (i : ℕ) (matrix : List ℕ) (n : ℕ) (weights out : List ℕ) : Type 0 where
  pub start : i ≤ 111
  pub rows : n ≤ 64
  pub columns : length weights ≤ 32
  pub entries : length matrix ≡ length weights * n
  pub room : 35600 ≤ length out
