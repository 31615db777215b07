-- Told between functions: what the move along a direction leaves in the scratch, A g beside A x, both turned downhill, and the move itself.
use Rattle.std.specs.Prelude.{ℕ, ◌+◌, ◌≡◌, Bool, List, length, drop, Float}
use Rattle.std.specs.Float.Ieee.Scale.{finite}
use Rattle.seq.specs.Choice.{pick}
use Rattle.seq.specs.Sums.{plus_zero}
use Rattle.direction.specs.Direction.{uphill, turned}
use Rattle.chosen.specs.Rows.{times}
use Rattle.direction.specs.Step.{reach_to, moved, along}
use Rattle.blocking.specs.Held.{ax_in, ag_in}

-- whether g leads uphill from the A x that numbers holds
abbrev pub uphill_in : (ℕ → ℕ → Float) → ℕ → List Float → List Float → Bool
uphill_in a rows numbers g = uphill plus_zero (ax_in rows numbers) (times plus_zero a (length g) rows g)

-- g was turned, A g stands beside A x, and the rest is as it was
pub record Downhill (a : ℕ → ℕ → Float) (rows : ℕ) (numbers g numbers' g' : List Float) : Type 0 where
  pub direction : g' ≡ turned (uphill_in a rows numbers g) g
  pub ax : ax_in rows numbers' ≡ ax_in rows numbers
  pub ag : ag_in rows numbers' ≡ turned (uphill_in a rows numbers g) (times plus_zero a (length g) rows g)
  pub rest : drop (rows + rows) numbers' ≡ drop (rows + rows) numbers

-- how far the step along g goes, once it is turned
abbrev pub reach_in : (ℕ → ℕ → Float) → ℕ → List Float → List Float → List ℕ → List Float → Float
reach_in a rows numbers x free g = reach_to x (turned (uphill_in a rows numbers g) g) free (length g)

-- where that is finite, x and A x were moved so far; the rest is as it was
pub record Advanced (a : ℕ → ℕ → Float) (rows : ℕ) (numbers x : List Float) (free : List ℕ) (g : List Float)
    (r : Bool) (numbers' x' : List Float) : Type 0 where
  pub goes : r ≡ finite (reach_in a rows numbers x free g)
  pub moves : x' ≡ pick r (moved (reach_in a rows numbers x free g) x (turned (uphill_in a rows numbers g) g) free) x
  pub ax : ax_in rows numbers'
      ≡ pick r (along (reach_in a rows numbers x free g) (ax_in rows numbers)
      (turned (uphill_in a rows numbers g) (times plus_zero a (length g) rows g))) (ax_in rows numbers)
  pub rest : drop (rows + rows) numbers' ≡ drop (rows + rows) numbers
