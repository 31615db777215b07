-- What colouring, change and turned words from bits are refused for, and what they answer and leave, for every argument: what they do from
-- the doubles that the bits stand for, but 4 measures bytes, and 15 stands in the place of 11, and directly after 4 where there is none.
use Rattle.std.specs.Prelude.{ℕ, ◌*◌, ◌≡◌, not, ◌||◌, List, eqb, ℤ, length, Float}
use Rattle.seq.specs.Choice.{pick, or_else}
use Rattle.seq.specs.Lists.{repeated}
use Rattle.seq.specs.Sums.{plus_zero}
use Rattle.limits.specs.Limits.{too_large, scratch_short, all_finite}
use Rattle.limits.specs.Matrix.{columns_of}
use Rattle.limits.specs.Votes.{bytes_of, spare_fault, expanded}
use Rattle.draw.specs.SplitMix.{seeded}
use Rattle.colored.specs.Coloring.{coloring_of}
use Rattle.colorfaults.specs.Discrepancy.{colours_of}
use Rattle.colorfaults.specs.declared.Colored.{Colored}
use Rattle.change.specs.Margins.{max_change}
use Rattle.turned.specs.Turned.{turned_count}
use Rattle.margins.specs.declared.Change.{Change}
use Rattle.margins.specs.declared.Turned.{Turned}

-- of a colouring, the first of 3, 4, 6, 15
unfoldable pub bits_coloring_fault : List ℕ → ℕ → ℕ → ℕ → ℕ → ℕ → ℕ
bits_coloring_fault bits m n output numbers indices =
    pick (too_large m n) 3
    (pick (not (eqb (length bits) (m * bytes_of n)) || not (eqb output m)) 4
    (pick (scratch_short m n numbers indices) 6 (spare_fault bits m n)))

-- the answer, and what the call leaves: on a refusal zeros beside the number, and every list as it was
pub record BitsColored (bits : List ℕ) (m n seed : ℕ) (output : List ℤ) (numbers : List Float) (indices : List ℕ)
    (r : Colored) (output' : List ℤ) (numbers' : List Float) (indices' : List ℕ) : Type 0 where
  pub number : r.number ≡ bits_coloring_fault bits m n (length output) (length numbers) (length indices)
  pub directions : r.directions ≡ pick (eqb r.number 0)
      (coloring_of plus_zero (columns_of (expanded bits m n) n) m n (seeded seed 1)).directions 0
  pub sweeps : r.sweeps ≡ pick (eqb r.number 0) (coloring_of plus_zero (columns_of (expanded bits m n) n) m n (seeded seed 1)).sweeps 0
  pub colours : output' ≡ pick (eqb r.number 0) (colours_of (expanded bits m n) m n seed) output
  pub floats : numbers' ≡ pick (eqb r.number 0) (repeated plus_zero (length numbers)) numbers
  pub words : indices' ≡ pick (eqb r.number 0) (repeated 0 (length indices)) indices

-- of a change or a count, 3 or 4
unfoldable pub poll_fault : List ℕ → ℕ → ℕ → List Float → List Float → ℕ
poll_fault bits m n before after =
    pick (too_large m n) 3
    (pick (not (eqb (length bits) (m * bytes_of n)) || (not (eqb (length before) m) || not (eqb (length after) m))) 4 0)

-- of a change, the first of 3, 4, 15
abbrev pub bits_change_fault : List ℕ → ℕ → ℕ → List Float → List Float → ℕ
bits_change_fault bits m n before after = or_else (poll_fault bits m n before after) (spare_fault bits m n)

-- the number, and the change where it is 0
unfoldable pub bits_change : List ℕ → ℕ → ℕ → List Float → List Float → Change
bits_change bits m n before after =
    let number : ℕ = bits_change_fault bits m n before after in
    record { number = number; change = pick (eqb number 0) (max_change (columns_of (expanded bits m n) n) m n before after) plus_zero }

-- of turned words, the first of 3, 4, 15, 8; 4 also for thresholds of another length
abbrev pub bits_turned_fault : List ℕ → ℕ → ℕ → List Float → List Float → List Float → ℕ
bits_turned_fault bits m n before after thresholds =
    or_else (poll_fault bits m n before after)
    (pick (not (eqb (length thresholds) n)) 4
    (or_else (spare_fault bits m n) (pick (all_finite thresholds) 0 8)))

-- the number, and the count where it is 0
unfoldable pub bits_turned : List ℕ → ℕ → ℕ → List Float → List Float → List Float → Turned
bits_turned bits m n before after thresholds =
    let number : ℕ = bits_turned_fault bits m n before after thresholds in
    record {
      number = number;
      count = pick (eqb number 0) (turned_count (columns_of (expanded bits m n) n) m n before after thresholds) 0;
    }
