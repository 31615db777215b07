-- What the public calls answer for every argument.
use Rattle.std.specs.Prelude.{ℕ, ◌*◌, ◌≡◌, not, ◌||◌, List, eqb, length, Float}
use Rattle.seq.specs.Choice.{pick, or_else}
use Rattle.seq.specs.Sums.{plus_zero}
use Rattle.limits.specs.Limits.{too_large, all_finite}
use Rattle.limits.specs.Matrix.{columns_of}
use Rattle.change.specs.Margins.{max_change}
use Rattle.turned.specs.Turned.{turned_count}
use Rattle.margins.specs.declared.Change.{Change}
use Rattle.margins.specs.declared.Turned.{Turned}

-- 3 too large, 4 another length than m and n say
unfoldable pub margin_fault : List Float → ℕ → ℕ → List Float → List Float → ℕ
margin_fault matrix m n before after =
    pick (too_large m n) 3
    (pick (not (eqb (length matrix) (m * n)) || (not (eqb (length before) m) || not (eqb (length after) m))) 4 0)

-- the number, and the change where it is 0
unfoldable pub change_answer : List Float → ℕ → ℕ → List Float → List Float → Change
change_answer matrix m n before after =
    let number : ℕ = margin_fault matrix m n before after in
    record { number = number; change = pick (eqb number 0) (max_change (columns_of matrix n) m n before after) plus_zero }

-- of the thresholds, one a row: 4 another length than n, 8 one that is not finite
unfoldable pub threshold_fault : ℕ → List Float → ℕ
threshold_fault n thresholds = pick (not (eqb (length thresholds) n)) 4 (pick (all_finite thresholds) 0 8)

-- the first of both that is given
abbrev pub turned_fault : List Float → ℕ → ℕ → List Float → List Float → List Float → ℕ
turned_fault matrix m n before after thresholds = or_else (margin_fault matrix m n before after) (threshold_fault n thresholds)

-- the number, and the count where it is 0
unfoldable pub turned_answer : List Float → ℕ → ℕ → List Float → List Float → List Float → Turned
turned_answer matrix m n before after thresholds =
    let number : ℕ = turned_fault matrix m n before after thresholds in
    record { number = number; count = pick (eqb number 0) (turned_count (columns_of matrix n) m n before after thresholds) 0 }

-- the answer as a call gives it that writes the change: its number is r, and the change that is written change'
pub record ChangeGiven (answer : Change) (r : ℕ) (change' : Float) : Type 0 where
  pub number : r ≡ answer.number
  pub change : change' ≡ answer.change

-- so for the count of turned words
pub record TurnedGiven (answer : Turned) (r count' : ℕ) : Type 0 where
  pub number : r ≡ answer.number
  pub count : count' ≡ answer.count
