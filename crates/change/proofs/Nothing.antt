-- With no column or no row no margin moves: the largest change is +0.0.
use Prim.Native.Nat.{ℕ, zero, suc}
use mathlib.Core.Path.{◌≡◌, refl}
use mathlib.Core.List.{List}
use lib.Ieee.{Float, of_bits, is_nan, lt}
use Rattle.seq.specs.Sums.{plus_zero}
use Rattle.ieee.specs.Magnitude.{larger_of, max_abs_to}
use Rattle.change.specs.Margins.{change_to, max_change}

-- the largest of zeros
zeros : (k : ℕ) → max_abs_to (λ i. plus_zero) k ≡ plus_zero
unfolding max_abs_to larger_of of_bits is_nan lt
zeros zero = refl
zeros (suc k) = rw (zeros k)

pub no_rows : (matrix : ℕ → ℕ → Float) (m : ℕ) (before after : List Float) → max_change matrix m 0 before after ≡ plus_zero
unfolding max_change max_abs_to
no_rows matrix m before after = refl

pub no_columns : (matrix : ℕ → ℕ → Float) (n : ℕ) (before after : List Float) → max_change matrix 0 n before after ≡ plus_zero
unfolding max_change change_to
no_columns matrix n before after = zeros n
