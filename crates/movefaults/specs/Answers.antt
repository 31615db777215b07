-- What the two public calls answer for every argument.
use Rattle.std.specs.Prelude.{ℕ, ◌*◌, ◌≡◌, not, ◌&&◌, ◌||◌, List, eqb, length, Float}
use Rattle.seq.specs.Choice.{pick, or_else}
use Rattle.limits.specs.Limits.{too_large, bounded}
use Rattle.limits.specs.Matrix.{columns_of}
use Rattle.ieee.specs.Constants.{one}
use Rattle.marking.specs.Moved.{moved_rows, changes_at}
use Rattle.movefaults.specs.Changes.{changes_of}

-- 3 too large, 4 another length than m and n say: of the matrix, of the weights, of the lists
unfoldable pub length_fault : ℕ → ℕ → ℕ → ℕ → ℕ → ℕ → ℕ → ℕ
length_fault m n matrix before after rows changes =
    pick (too_large m n) 3
    (pick (not (eqb matrix (m * n)) || (not (eqb before m) || (not (eqb after m) || (not (eqb rows n) || not (eqb changes n))))) 4 0)

-- 7 an entry outside [-1, 1], 8 a weight that is not finite or above 1 in magnitude
unfoldable pub range_fault : List Float → List Float → List Float → ℕ
range_fault matrix before after = pick (bounded one matrix) (pick (bounded one before && bounded one after) 0 8) 7

-- the lowest of all
unfoldable pub moved_fault : List Float → ℕ → ℕ → List Float → List Float → ℕ → ℕ → ℕ
moved_fault matrix m n before after rows changes =
    or_else (length_fault m n (length matrix) (length before) (length after) rows changes) (range_fault matrix before after)

-- the changes of the rows of a lent matrix
abbrev pub lent_changes : List Float → ℕ → ℕ → List Float → List Float → List Float
lent_changes matrix m n before after = changes_of (columns_of matrix n) m n before after

-- The number; and where it is 0 the rows by the magnitude of their changes, with the changes in that order. A refusal leaves both
-- lists as they were.
pub record Listed (matrix : List Float) (m n : ℕ) (before after : List Float) (rows : List ℕ)
    (changes : List Float) (r : ℕ) (rows' : List ℕ) (changes' : List Float) : Type 0 where
  pub number : r ≡ moved_fault matrix m n before after (length rows) (length changes)
  pub index : rows' ≡ pick (eqb r 0) (moved_rows (lent_changes matrix m n before after)) rows
  pub list : changes' ≡ pick (eqb r 0) (changes_at (lent_changes matrix m n before after)
      (moved_rows (lent_changes matrix m n before after))) changes
