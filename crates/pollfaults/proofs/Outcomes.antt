-- The two outcomes of the colouring from bits: a refusal leaves all as it was, and else the colours and zeros stand there.
use borrow.Author.Tests.{ne_eqb}
use Prim.Native.Nat.{ℕ, ◌*◌}
use mathlib.Core.Path.{◌≡◌, sym, subst}
use mathlib.Core.List.{List, []}
use lib.IntN.{ℤ}
use lib.ListN.{length}
use lib.Ieee.{Float}
use Rattle.seq.specs.Lists.{tabulate, repeated}
use Rattle.seq.specs.Sums.{plus_zero}
use Rattle.colored.specs.Coloring.{coloring_of}
use Rattle.colored.specs.Fresh.{ColoredAs}
use Rattle.colored.specs.declared.Counted.{Counted}
use Rattle.draw.specs.SplitMix.{seeded}
use Rattle.limits.specs.Matrix.{columns_of}
use Rattle.limits.specs.Votes.{bytes_of, expanded}
use Rattle.limits.specs.Reading.{read_of}
use Rattle.colorfaults.specs.Discrepancy.{colour_at, colours_of}
use Rattle.pollfaults.specs.Polls.{bits_coloring_fault, BitsColored}
use Rattle.pollfaults.proofs.AsDoubles.{coloring_expanded}

module _ (bits : List ℕ) (m n seed : ℕ) (output : List ℤ) (numbers : List Float) (indices : List ℕ) where
  -- a refusal
  pub refused : (r : ℕ) → r ≡ bits_coloring_fault bits m n (length output) (length numbers) (length indices) → (r ≡ 0 → ⊥)
      → BitsColored bits m n seed output numbers indices (record { number = r; directions = 0; sweeps = 0 }) output numbers indices
  refused r e h =
      record {
        number = e;
        directions = rw (ne_eqb r 0 h);
        sweeps = rw (ne_eqb r 0 h);
        colours = rw (ne_eqb r 0 h);
        floats = rw (ne_eqb r 0 h);
        words = rw (ne_eqb r 0 h);
      }

  -- colours, from the bits as they are read
  pub coloured : (x numbers' : List Float) (indices' : List ℕ) (output' : List ℤ) (c : Counted)
      → bits_coloring_fault bits m n (length output) (length numbers) (length indices) ≡ 0
      → length bits ≡ m * bytes_of n
      → ColoredAs x c (coloring_of plus_zero (read_of [] bits n) m n (seeded seed 1))
      → length x ≡ m
      → output' ≡ tabulate (colour_at x) (length x)
      → numbers' ≡ repeated plus_zero (length numbers)
      → indices' ≡ repeated 0 (length indices)
      → BitsColored bits m n seed output numbers indices
      (record { number = 0; directions = c.directions; sweeps = c.sweeps }) output' numbers' indices'
  unfolding colours_of
  coloured x numbers' indices' output' c e area read wide left floats words =
      let is : ColoredAs x c (coloring_of plus_zero (columns_of (expanded bits m n) n) m n (seeded seed 1)) =
      subst (ColoredAs x c) (coloring_expanded bits m n area (seeded seed 1)) read in
      record {
        number = sym e;
        directions = is.directions;
        sweeps = is.sweeps;
        colours = rw (left, wide, is.colours);
        floats = floats;
        words = words;
      }
