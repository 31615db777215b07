-- The weights and the matrix that a sheet of the form says, as bits and as doubles. Every bit pattern of a NaN is the NaN as a double.
use Rattle.std.specs.Prelude.{ℕ, ◌+◌, ◌*◌, ◌/◌, ◌%◌, List, Float}
use Rattle.std.specs.Float.{binary64}
use Rattle.std.specs.Float.Ieee.{of_bits}
use Rattle.seq.specs.Lists.{tabulate}
use Rattle.fields.specs.Fields.{bits_at}
use Rattle.head.specs.declared.Head.{Head}
use Rattle.form.specs.Form.{line_long}

-- the double whose bits stand at i
abbrev pub double_at : List ℕ → ℕ → Float
double_at text i = of_bits binary64 (bits_at text i).value

-- where a column's weight stands, the columns beginning at `start` with n entries each
abbrev pub weight_place : ℕ → ℕ → ℕ → ℕ
weight_place start n j = start + j * line_long n + 4

-- where entry k of the matrix stands, which is of column k / n and row k % n
abbrev pub entry_place : ℕ → ℕ → ℕ → ℕ
entry_place start n k = weight_place start n (k / n) + 17 + 17 * (k % n)

-- the bits of the weights
abbrev pub weight_bits : List ℕ → Head → List ℕ
weight_bits text h = tabulate (λ j. (bits_at text (weight_place h.next h.n j)).value) h.m

-- and of the matrix, column after column
abbrev pub matrix_bits : List ℕ → Head → List ℕ
matrix_bits text h = tabulate (λ k. (bits_at text (entry_place h.next h.n k)).value) (h.m * h.n)

-- the weights
abbrev pub weights_of : List ℕ → Head → List Float
weights_of text h = tabulate (λ j. double_at text (weight_place h.next h.n j)) h.m

-- the matrix, column after column
abbrev pub matrix_of : List ℕ → Head → List Float
matrix_of text h = tabulate (λ k. double_at text (entry_place h.next h.n k)) (h.m * h.n)
