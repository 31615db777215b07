-- Local search: single coordinates are flipped while that lowers the largest magnitude of A x, in at most 100 sweeps.
use Rattle.std.specs.Prelude.{ℕ, zero, suc, Bool, true, false, List, length, set, Float}
use Rattle.std.specs.Float.{binary64}
use Rattle.std.specs.Float.Ieee.{of_bits, sub, mul, neg, lt}
use Rattle.seq.specs.Choice.{pick}
use Rattle.seq.specs.Lists.{tabulate}
use Rattle.seq.specs.Sums.{at}
use Rattle.linear.specs.Vectors.{max_abs_of}
use Rattle.ieee.specs.Magnitude.{max_abs_to}
use Rattle.ieee.specs.Constants.{one, two}

-- what a search holds: the colours, A x, its largest magnitude, and whether this sweep flipped one
pub record Search : Type 0 where
  pub x : List Float
  pub ax : List Float
  pub best : Float
  pub improved : Bool

-- row i of A x with a column's coordinate flipped, which was x
abbrev pub flipped_at : (ℕ → Float) → Float → List Float → ℕ → Float
flipped_at column x ax i = sub binary64 (at ax i) (mul binary64 (mul binary64 two x) (column i))

-- 1 - 1e-12, the difference rounded: a flip has to lower the largest magnitude below this part of it
abbrev pub improvement : Float
improvement = sub binary64 one (of_bits binary64 0x3D71_9799_812D_EA11)

-- the flip of column j lowers the largest magnitude enough
unfoldable pub improves : (ℕ → Float) → Search → ℕ → Bool
improves column s j = lt (max_abs_to (flipped_at column (at s.x j) s.ax) (length s.ax)) (mul binary64 s.best improvement)

-- column j flipped
unfoldable pub flipped : (ℕ → Float) → Search → ℕ → Search
flipped column s j =
    let ax : List Float = tabulate (flipped_at column (at s.x j) s.ax) (length s.ax) in
    record { x = set s.x j (neg (at s.x j)); ax = ax; best = max_abs_of ax; improved = true }

-- the columns below k were tried, in order
unfoldable pub sweep_to : (ℕ → ℕ → Float) → Search → ℕ → Search
sweep_to a s zero = s
sweep_to a s (suc k) =
    let r : Search = sweep_to a s k in
    pick (improves (a k) r k) (flipped (a k) r k) r

-- a sweep of k columns, that so far flipped none
abbrev pub swept_of : (ℕ → ℕ → Float) → ℕ → Search → Search
swept_of a k s = sweep_to a (record { x = s.x; ax = s.ax; best = s.best; improved = false }) k

-- what local search finds: the colours, and how many sweeps it made
pub record Searched : Type 0 where
  pub x : List Float
  pub sweeps : ℕ

-- at most `left` sweeps after those that were made: one that flips nothing is the last, and counts too
unfoldable pub search_to : (ℕ → ℕ → Float) → ℕ → ℕ → ℕ → Search → Searched
search_to a k zero made s = record { x = s.x; sweeps = made }
search_to a k (suc left) made s =
    let r : Search = swept_of a k s in
    let more : Searched = search_to a k left (suc made) r in
    pick r.improved more (record { x = r.x; sweeps = suc made })

-- local search from the colours x and A x, in at most 100 sweeps
unfoldable pub searched : (ℕ → ℕ → Float) → ℕ → List Float → List Float → Searched
searched a k x ax = search_to a k 100 0 (record { x = x; ax = ax; best = max_abs_of ax; improved = false })
