-- The colouring of k columns of n rows: phases of the walk until no coordinate is free, then local search.
use Rattle.std.specs.Prelude.{ℕ, Bool, List, eqb, Float}
use Rattle.seq.specs.Lists.{repeated}
use Rattle.seq.specs.Sums.{plus_zero}
use Rattle.seq.specs.Until.{run}
use Rattle.chosen.specs.Rows.{times}
use Rattle.walked.specs.Walk.{free_ones}
use Rattle.phased.specs.Phase.{Between, phased}
use Rattle.flipping.specs.Search.{Searched, searched}
use Rattle.draw.specs.declared.SplitMix64.{SplitMix64}

-- no coordinate is free
abbrev pub settled : Between → Bool
settled b = eqb (free_ones b.free) 0

-- the whole walk, from x = 0
unfoldable pub walked : Float → (ℕ → ℕ → Float) → ℕ → ℕ → SplitMix64 → Between
walked z a k n rng =
    let b : Between = record { x = repeated plus_zero k; free = repeated 1 k; ax = repeated plus_zero n; rng = rng; directions = 0 } in
    run settled (phased z a k n) (free_ones b.free) b

-- colours, each 1.0 or -1.0, the generator after them, and how many directions were drawn and how many sweeps made
pub record Colored : Type 0 where
  pub x : List Float
  pub rng : SplitMix64
  pub directions : ℕ
  pub sweeps : ℕ

-- the walk, A x of its colours anew, and local search
unfoldable pub coloring_of : Float → (ℕ → ℕ → Float) → ℕ → ℕ → SplitMix64 → Colored
coloring_of z a k n rng =
    let b : Between = walked z a k n rng in
    let s : Searched = searched a k b.x (times plus_zero a k n b.x) in
    record { x = s.x; rng = b.rng; directions = b.directions; sweeps = s.sweeps }
