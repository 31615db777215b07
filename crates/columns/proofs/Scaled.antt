-- A scaled column: within it an entry is scaled, under it stands |s|.
use borrow.Author.Tests.{lt-ltb, le-ltb}
use Prim.Native.Nat.{ℕ, ◌≤◌, ◌<◌}
use mathlib.Core.Path.{◌≡◌}
use mathlib.Core.List.{List}
use lib.ListN.{length}
use lib.Ieee.{Float, binary64, mul}
use Rattle.seq.specs.Sums.{at}
use Rattle.ieee.specs.Magnitude.{abs_of}
use Rattle.columns.specs.Columns.{scaled_at}

-- an entry of the column's own
pub scaled_own : (column : List Float) (s : Float) (i : ℕ) → i < length column → scaled_at column s i ≡ mul binary64 (at column i) s
scaled_own column s i h = rw (lt-ltb i (length column) h)

-- the entry under them
pub scaled_under : (column : List Float) (s : Float) (i : ℕ) → length column ≤ i → scaled_at column s i ≡ abs_of s
scaled_under column s i h = rw (le-ltb i (length column) h)
