-- The weights that are not 0, packed at the front of two lists, with zeros behind them.
use Rattle.std.specs.Prelude.{ℕ, ◌-◌, ◌≡◌, List, ◌++◌, length, Float}
use Rattle.seq.specs.Lists.{repeated}
use Rattle.seq.specs.Sums.{plus_zero}
use Rattle.places.specs.Places.{chosen}
use Rattle.ranking.specs.Ranking.{support}

-- the numbers of the columns whose weight is not 0, from 0 and rising, and zeros after them
abbrev pub packed_columns : List Float → List ℕ
packed_columns w = support w ++ repeated 0 (length w - length (support w))

-- their weights in the same order, and zeros after them
abbrev pub packed_weights : List Float → List Float
packed_weights w = chosen w (support w) ++ repeated plus_zero (length w - length (support w))

-- the two lists
pub record Packed (w : List Float) (columns : List ℕ) (kept : List Float) : Type 0 where
  pub numbers : columns ≡ packed_columns w
  pub weights : kept ≡ packed_weights w
