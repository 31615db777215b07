-- Told between functions: a call that was tested, a scratch of zeros, and what the items leave one after the other.
use Rattle.std.specs.Prelude.{ℕ, ◌≡◌, List, length, Float}
use Rattle.seq.specs.Lists.{repeated}
use Rattle.seq.specs.Sums.{plus_zero}
use Rattle.items.specs.Items.{Items, item_answer, item_output}
use Rattle.items.specs.All.{joined, call_fault, answers_of}
use Rattle.items.specs.Lent.{lent_as, Lent}
use Rattle.items.specs.declared.Answers.{Answers}

-- with number 0 the call has no fault on the doubles that its matrix stands for, and the matrix is lent whole
pub record Tested (number : ℕ) (matrix : List Float) (bits : List ℕ) (m n items : ℕ) (list : Items)
    (output numbers indices : ℕ) : Type 0 where
  pub fine : number ≡ 0 → call_fault (lent_as matrix bits m n) m n items list output numbers indices ≡ 0
  pub lent : number ≡ 0 → Lent matrix bits m n

-- the scratch is zero
pub record Zeros (numbers : List Float) (indices : List ℕ) : Type 0 where
  pub floats : numbers ≡ repeated plus_zero (length numbers)
  pub words : indices ≡ repeated 0 (length indices)

-- every item has its answer and its part of the output, and the scratch is zero
pub record Each (matrix : List Float) (m n items : ℕ) (list : Items) (output numbers : List Float) (indices : List ℕ)
    (r : Answers) (output' numbers' : List Float) (indices' : List ℕ) : Type 0 where
  pub number : r.number ≡ 0
  pub answers : r.items ≡ answers_of (item_answer matrix m n list (length numbers) (length indices)) items
  pub writes : output' ≡ joined (item_output matrix m n list (length numbers) (length indices) output) items
  pub floats : numbers' ≡ repeated plus_zero (length numbers)
  pub words : indices' ≡ repeated 0 (length indices)
