-- What is read of m columns of n bits, with no doubles beside them, is what the doubles that they stand for have: so is a colouring, a change and a count.
use Prim.Native.Nat.{ℕ, ◌*◌}
use mathlib.Core.Path.{◌≡◌}
use mathlib.Core.List.{List, []}
use lib.ListN.{length}
use lib.Ieee.{Float}
use Rattle.seq.specs.Sums.{plus_zero}
use Rattle.draw.specs.declared.SplitMix64.{SplitMix64}
use Rattle.limits.specs.Matrix.{columns_of}
use Rattle.limits.specs.Votes.{bytes_of, expanded}
use Rattle.limits.specs.Reading.{read_of}
use Rattle.limits.proofs.ReadsAs.{reads_expanded}
use Rattle.colored.specs.Coloring.{coloring_of}
use Rattle.colored.proofs.SameColumns.{coloring_same}
use Rattle.change.specs.Margins.{max_change}
use Rattle.turned.specs.Turned.{turned_count}
use Rattle.margins.proofs.SameEntries.{largest_same, turned_same}

module _ (bits : List ℕ) (m n : ℕ) (area : length bits ≡ m * bytes_of n) where
  pub coloring_expanded : (rng : SplitMix64)
      → coloring_of plus_zero (read_of [] bits n) m n rng ≡ coloring_of plus_zero (columns_of (expanded bits m n) n) m n rng
  coloring_expanded rng = coloring_same (read_of [] bits n) (columns_of (expanded bits m n) n) m n (reads_expanded bits m n area) plus_zero rng

  -- the largest change,
  pub change_expanded : (before after : List Float)
      → max_change (read_of [] bits n) m n before after ≡ max_change (columns_of (expanded bits m n) n) m n before after
  change_expanded before after = largest_same (read_of [] bits n) (columns_of (expanded bits m n) n) m n (reads_expanded bits m n area) before after

  -- and how many rows turn
  pub turned-expanded : (before after thresholds : List Float)
      → turned_count (read_of [] bits n) m n before after thresholds ≡ turned_count (columns_of (expanded bits m n) n) m n before after thresholds
  turned-expanded before after thresholds =
      turned_same (read_of [] bits n) (columns_of (expanded bits m n) n) m n (reads_expanded bits m n area) before after thresholds
