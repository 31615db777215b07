-- Told between functions: what the start of a phase leaves in the scratch.
use Rattle.std.specs.Prelude.{ℕ, ◌≡◌, List, length, Float}
use Rattle.seq.specs.Sums.{plus_zero}
use Rattle.chosen.specs.Rows.{first_rows}
use Rattle.begin.specs.Begin.{block_to, marks_to}
use Rattle.blocking.specs.Held.{ax_in, basis_in}

-- some rows were blocked in order
pub record BlockedFirst (a : ℕ → ℕ → Float) (l : ℕ) (first : List ℕ) (numbers : List Float) (rows r : ℕ)
    (numbers' : List Float) (blocked' : List ℕ) : Type 0 where
  pub ax : ax_in rows numbers' ≡ ax_in rows numbers
  pub marks : blocked' ≡ marks_to rows first (length first)
  pub basis : basis_in rows l r numbers' ≡ block_to plus_zero a l first (length first)

-- the rows most at risk were
pub record Begun (a : ℕ → ℕ → Float) (l : ℕ) (numbers : List Float) (rows r : ℕ) (numbers' : List Float) (blocked' : List ℕ) : Type 0 where
  pub ax : ax_in rows numbers' ≡ ax_in rows numbers
  pub marks : blocked' ≡ marks_to rows (first_rows plus_zero a l rows (ax_in rows numbers))
      (length (first_rows plus_zero a l rows (ax_in rows numbers)))
  pub basis : basis_in rows l r numbers'
      ≡ block_to plus_zero a l (first_rows plus_zero a l rows (ax_in rows numbers)) (length (first_rows plus_zero a l rows (ax_in rows numbers)))
