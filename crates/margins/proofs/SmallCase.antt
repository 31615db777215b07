-- The definitions on a case small enough to follow by hand: two rows, columns (1, 1) and (1, -1), weights 0.5, 0.5 to 1, 0. The first row's margin stays,
-- the second's falls by 1. Each law computes.
use mathlib.Core.Path.{◌≡◌, refl}
use mathlib.Core.List.{List, [], ◌∷◌}
use lib.Ieee.{Float, binary64, of_bits, is_nan, lt, ne, sub, mul}
use Rattle.seq.specs.Sums.{plus_zero}
use Rattle.ieee.specs.Magnitude.{larger_of, max_abs_to}
use Rattle.limits.specs.Matrix.{columns_of}
use Rattle.change.specs.Margins.{change_to, max_change}
use Rattle.margins.specs.Answers.{margin_fault, change_answer}

abbrev one : Float
one = of_bits binary64 0x3FF0_0000_0000_0000

abbrev minus_one : Float
minus_one = of_bits binary64 0xBFF0_0000_0000_0000

abbrev half : Float
half = of_bits binary64 0x3FE0_0000_0000_0000

abbrev matrix : List Float
matrix = one ∷ one ∷ one ∷ minus_one ∷ []

abbrev halves : List Float
halves = half ∷ half ∷ []

abbrev first : List Float
first = one ∷ plus_zero ∷ []

pub first_row : change_to (columns_of matrix 2) halves first 0 2 ≡ plus_zero
unfolding change_to of_bits ne sub mul
first_row = refl

pub second_row : change_to (columns_of matrix 2) halves first 1 2 ≡ minus_one
unfolding change_to of_bits ne sub mul
second_row = refl

pub largest_change : max_change (columns_of matrix 2) 2 2 halves first ≡ one
unfolding max_change change_to max_abs_to larger_of of_bits is_nan lt ne sub mul
largest_change = refl

-- the call answers so
pub answered : change_answer matrix 2 2 halves first ≡ record { number = 0; change = one }
unfolding change_answer margin_fault max_change change_to max_abs_to larger_of of_bits is_nan lt ne sub mul
answered = refl
