-- Told between functions: what a colouring of all columns of a matrix is lent.
use Rattle.std.specs.Prelude.{ℕ, ◌+◌, ◌*◌, ◌≤◌, ◌≡◌, true, List, length, Float}
use Rattle.limits.specs.Limits.{bounded}
use Rattle.limits.specs.Reading.{Whole}
use Rattle.colorfaults.specs.Discrepancy.{most_entry}

-- a matrix of m columns and n rows, neither too many, with no entry above 2 ^ 32; a colour for each column, and scratch enough
pub record ColoringLent (matrix : List Float) (bits : List ℕ) (m n : ℕ) (x numbers : List Float) (indices : List ℕ) : Type 0 where
  pub whole : Whole matrix bits m n
  pub columns : m ≤ 256
  pub rows : n ≤ 4096
  pub colours : length x ≡ m
  pub floats : n + n + n + m * m ≤ length numbers
  pub words : n ≤ length indices
  pub within : bounded most_entry matrix ≡ true
