-- The public colouring: what it is refused for, and what it leaves.
use Rattle.std.specs.Prelude.{ℕ, ◌*◌, ◌≡◌, not, ◌||◌, List, eqb, ℤ, pos, negsuc, length, Float}
use Rattle.std.specs.Float.{binary64}
use Rattle.std.specs.Float.Ieee.{of_bits, lt}
use Rattle.seq.specs.Choice.{pick}
use Rattle.seq.specs.Lists.{tabulate, repeated}
use Rattle.seq.specs.Sums.{plus_zero, at}
use Rattle.draw.specs.SplitMix.{seeded}
use Rattle.limits.specs.Matrix.{columns_of}
use Rattle.limits.specs.Limits.{too_large, scratch_short, bounded}
use Rattle.colored.specs.Coloring.{coloring_of}
use Rattle.colorfaults.specs.declared.Colored.{Colored}

-- 2 ^ 32
abbrev pub most_entry : Float
most_entry = of_bits binary64 0x41F0_0000_0000_0000

-- The lowest number that applies: 3 too large, 4 another length, 6 too little scratch, 11 an entry that is not finite or above 2 ^ 32.
unfoldable pub coloring_fault : List Float → ℕ → ℕ → ℕ → ℕ → ℕ → ℕ
coloring_fault matrix m n output numbers indices =
    pick (too_large m n) 3
    (pick (not (eqb (length matrix) (m * n)) || not (eqb output m)) 4
    (pick (scratch_short m n numbers indices) 6
    (pick (bounded most_entry matrix) 0 11)))

-- 1 for a colour above 0, and -1 for one below
abbrev pub colour_at : List Float → ℕ → ℤ
colour_at x j = pick (lt plus_zero (at x j)) (pos 1) (negsuc 0)

-- the colours of the m columns; direct colourings stay at edition 1
unfoldable pub colours_of : List Float → ℕ → ℕ → ℕ → List ℤ
colours_of matrix m n seed = tabulate (colour_at (coloring_of plus_zero (columns_of matrix n) m n (seeded seed 1)).x) m

-- The answer, and what the call leaves: on a refusal zeros beside the number, and every list as it was, as a list of values;
-- else how many directions were drawn and sweeps made, the colours, and a scratch of zeros.
pub record DiscrepancyColored (matrix : List Float) (m n seed : ℕ) (output : List ℤ) (numbers : List Float) (indices : List ℕ)
    (r : Colored) (output' : List ℤ) (numbers' : List Float) (indices' : List ℕ) : Type 0 where
  pub number : r.number ≡ coloring_fault matrix m n (length output) (length numbers) (length indices)
  pub directions : r.directions ≡ pick (eqb r.number 0) (coloring_of plus_zero (columns_of matrix n) m n (seeded seed 1)).directions 0
  pub sweeps : r.sweeps ≡ pick (eqb r.number 0) (coloring_of plus_zero (columns_of matrix n) m n (seeded seed 1)).sweeps 0
  pub colours : output' ≡ pick (eqb r.number 0) (colours_of matrix m n seed) output
  pub floats : numbers' ≡ pick (eqb r.number 0) (repeated plus_zero (length numbers)) numbers
  pub words : indices' ≡ pick (eqb r.number 0) (repeated 0 (length indices)) indices
