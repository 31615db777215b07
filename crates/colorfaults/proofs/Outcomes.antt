-- The two outcomes of the public colouring: a refusal leaves all as it was, and else the colours and zeros stand there.
use borrow.Author.Tests.{ne_eqb}
use Prim.Native.Nat.{ℕ}
use mathlib.Core.Path.{◌≡◌, sym, ◌∙◌}
use mathlib.Core.List.{List}
use lib.IntN.{ℤ}
use lib.ListN.{length}
use lib.Ieee.{Float}
use Rattle.seq.specs.Lists.{tabulate, repeated}
use Rattle.seq.specs.Sums.{plus_zero}
use Rattle.colored.specs.Coloring.{Colored, coloring_of}
use Rattle.colored.specs.Fresh.{ColoredAs}
use Rattle.colored.specs.declared.Counted.{Counted}
use Rattle.draw.specs.SplitMix.{seeded}
use Rattle.limits.specs.Matrix.{columns_of}
use Rattle.colorfaults.specs.Discrepancy.{coloring_fault, colour_at, colours_of, DiscrepancyColored}

-- equal colours
pub colours_at : {x y : List Float} {r : Counted} {c : Colored} → y ≡ x → ColoredAs x r c → ColoredAs y r c
colours_at e h = record { colours = e ∙ h.colours; draws = h.draws; directions = h.directions; sweeps = h.sweeps }

module _ (matrix : List Float) (m n seed : ℕ) (output : List ℤ) (numbers : List Float) (indices : List ℕ) where
  pub refused : (r : ℕ) → r ≡ coloring_fault matrix m n (length output) (length numbers) (length indices) → (r ≡ 0 → ⊥)
      → DiscrepancyColored matrix m n seed output numbers indices (record { number = r; directions = 0; sweeps = 0 }) output numbers indices
  refused r e h =
      record {
        number = e;
        directions = rw (ne_eqb r 0 h);
        sweeps = rw (ne_eqb r 0 h);
        colours = rw (ne_eqb r 0 h);
        floats = rw (ne_eqb r 0 h);
        words = rw (ne_eqb r 0 h);
      }

  pub coloured : (x numbers' : List Float) (indices' : List ℕ) (output' : List ℤ) (c : Counted)
      → coloring_fault matrix m n (length output) (length numbers) (length indices) ≡ 0
      → ColoredAs x c (coloring_of plus_zero (columns_of matrix n) m n (seeded seed 1))
      → length x ≡ m
      → output' ≡ tabulate (colour_at x) (length x)
      → numbers' ≡ repeated plus_zero (length numbers)
      → indices' ≡ repeated 0 (length indices)
      → DiscrepancyColored matrix m n seed output numbers indices
      (record { number = 0; directions = c.directions; sweeps = c.sweeps }) output' numbers' indices'
  unfolding colours_of
  coloured x numbers' indices' output' c e is wide left floats words =
      record {
        number = sym e;
        directions = is.directions;
        sweeps = is.sweeps;
        colours = rw (left, wide, is.colours);
        floats = floats;
        words = words;
      }
