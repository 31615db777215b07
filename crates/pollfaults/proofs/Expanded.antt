-- Every answer from bits is that from the doubles that they stand for: the change, the count, and the colouring with all that it leaves.
use borrow.Author.Tests.{eqb-true, eq-eqb}
use Prim.Native.Nat.{ℕ, ◌*◌}
use mathlib.Core.Path.{◌≡◌, refl, sym, ◌∙◌}
use mathlib.Core.Bool.{Bool, true, false}
use mathlib.Core.List.{List}
use lib.Dec.{eqb}
use lib.IntN.{ℤ, pos}
use lib.ListN.{length}
use lib.Ieee.{Float, fin, of_bits, le, lt, eq}
use Rattle.seq.specs.Choice.{pick, or_else}
use Rattle.ieee.specs.Magnitude.{abs_of}
use Rattle.limits.specs.Votes.{bytes_of, spare_clear, expanded}
use Rattle.limits.proofs.ReadsAs.{length-expanded, expanded-bounded}
use Rattle.colorfaults.specs.Discrepancy.{most_entry, coloring_fault, DiscrepancyColored}
use Rattle.colorfaults.specs.declared.Colored.{Colored}
use Rattle.margins.specs.Answers.{margin_fault, threshold_fault, change_answer, turned_answer}
use Rattle.pollfaults.specs.Polls.{bits_coloring_fault, BitsColored, poll_fault, bits_change, bits_turned}

-- a vote is at most 2 ^ 32
vote_within : (b : Bool) → le (abs_of (fin b 1 (pos 0))) most_entry ≡ true
unfolding of_bits le lt eq
vote_within b = refl

-- a number, or 0 where it is 0
or_none : (a : ℕ) → or_else a 0 ≡ a
or_none a = go (eqb a 0) refl
  where
    go : (t : Bool) → eqb a 0 ≡ t → pick t 0 a ≡ a
    go true is = sym (eqb-true a 0 is)
    go false is = refl

module _ (bits : List ℕ) (m n : ℕ) (area : length bits ≡ m * bytes_of n) (clear : spare_clear bits m n ≡ true) where
  module _ (before after : List Float) where
    -- the sizes are refused alike
    poll_expanded : poll_fault bits m n before after ≡ margin_fault (expanded bits m n) m n before after
    unfolding poll_fault margin_fault
    poll_expanded = rw (eq-eqb (length bits) (m * bytes_of n) area, length-expanded bits m n, eq-eqb (m * n) (m * n) refl)

    -- the largest change from bits is that from the doubles
    pub change_as_doubles : bits_change bits m n before after ≡ change_answer (expanded bits m n) m n before after
    unfolding bits_change change_answer
    change_as_doubles = rw (clear, or_none (poll_fault bits m n before after), poll_expanded)

    -- and so is the number of turned words
    pub turned_as_doubles : (thresholds : List Float)
        → bits_turned bits m n before after thresholds ≡ turned_answer (expanded bits m n) m n before after thresholds
    unfolding bits_turned turned_answer threshold_fault
    turned_as_doubles thresholds = rw (clear, poll_expanded)

  -- a colouring is refused alike
  coloring_number : (output numbers indices : ℕ)
      → bits_coloring_fault bits m n output numbers indices ≡ coloring_fault (expanded bits m n) m n output numbers indices
  unfolding bits_coloring_fault coloring_fault
  coloring_number output numbers indices =
      rw (
        eq-eqb (length bits) (m * bytes_of n) area,
        clear,
        expanded-bounded bits m n most_entry vote_within,
        length-expanded bits m n,
        eq-eqb (m * n) (m * n) refl,
      )

  -- what the colouring from bits answers and leaves, that from the doubles answers and leaves
  pub coloured_as_doubles : {seed : ℕ} {output : List ℤ} {numbers : List Float} {indices : List ℕ} {r : Colored}
      {output' : List ℤ} {numbers' : List Float} {indices' : List ℕ}
      → BitsColored bits m n seed output numbers indices r output' numbers' indices'
      → DiscrepancyColored (expanded bits m n) m n seed output numbers indices r output' numbers' indices'
  coloured_as_doubles {output = output} {numbers = numbers} {indices = indices} c =
      record {
        number = c.number ∙ coloring_number (length output) (length numbers) (length indices);
        directions = c.directions;
        sweeps = c.sweeps;
        colours = c.colours;
        floats = c.floats;
        words = c.words;
      }
