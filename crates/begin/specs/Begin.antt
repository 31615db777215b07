-- The start of a phase, on its l columns: every coordinate is free, and the rows most at risk are blocked.
use Rattle.std.specs.Prelude.{ℕ, zero, suc, List, [], length, get_or, set, Float}
use Rattle.seq.specs.Lists.{repeated}
use Rattle.chosen.specs.Rows.{first_rows}
use Rattle.blocking.specs.Freeze.{Walk, blocking}
use Rattle.draw.specs.declared.SplitMix64.{SplitMix64}

-- the basis after the first k of some rows were blocked, in order
unfoldable pub block_to : Float → (ℕ → ℕ → Float) → ℕ → List ℕ → ℕ → List (List Float)
block_to z a l rows zero = []
block_to z a l rows (suc k) = blocking z a l (get_or rows k 0) (block_to z a l rows k)

-- marks that are set at the first k of some rows
unfoldable pub marks_to : ℕ → List ℕ → ℕ → List ℕ
marks_to n rows zero = repeated 0 n
marks_to n rows (suc k) = set (marks_to n rows k) (get_or rows k 0) 1

-- a phase's start at x and A x: every coordinate is free, and the first rows are blocked
unfoldable pub begun : Float → (ℕ → ℕ → Float) → ℕ → ℕ → List Float → List Float → SplitMix64 → Walk
begun z a l n x ax rng =
    let rows : List ℕ = first_rows z a l n ax in
    record {
      x = x;
      free = repeated 1 l;
      frozen = 0;
      ax = ax;
      blocked = marks_to n rows (length rows);
      basis = block_to z a l rows (length rows);
      rng = rng;
    }
