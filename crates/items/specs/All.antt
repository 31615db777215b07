-- What a call for several items answers and leaves, for every argument.
use Rattle.std.specs.Prelude.{ℕ, zero, suc, ◌-◌, ◌≡◌, List, [], ◌++◌, eqb, length, Float}
use Rattle.seq.specs.Choice.{pick}
use Rattle.seq.specs.Lists.{tabulate, repeated}
use Rattle.seq.specs.Sums.{plus_zero}
use Rattle.limits.specs.Votes.{expanded}
use Rattle.faults.specs.Faults.{whole_fault, bits_whole_fault}
use Rattle.answers.specs.Answers.{refusal}
use Rattle.answers.specs.declared.Answer.{Answer}
use Rattle.items.specs.Items.{Items, item_answer, item_output}
use Rattle.items.specs.declared.Answers.{Answers}

-- f 0, f 1, .., f (k - 1), one after the other
unfoldable pub joined : {A : Type 0} → (ℕ → List A) → ℕ → List A
joined f zero = []
joined f (suc k) = joined f k ++ f k

-- the number of the call as a whole
abbrev pub call_fault : List Float → ℕ → ℕ → ℕ → Items → ℕ → ℕ → ℕ → ℕ
call_fault matrix m n items list output numbers indices =
    whole_fault items matrix m n (length list.weights) (length list.seeds) (length list.editions) (length list.rules)
    (length list.allowances) (length list.limits) output numbers indices

-- and on bits
abbrev pub bits_call_fault : List ℕ → ℕ → ℕ → ℕ → Items → ℕ → ℕ → ℕ → ℕ
bits_call_fault bits m n items list output numbers indices =
    bits_whole_fault items bits m n (length list.weights) (length list.seeds) (length list.editions) (length list.rules)
    (length list.allowances) (length list.limits) output numbers indices

-- the items' answers, and zeros past the last
abbrev pub answers_of : (ℕ → Answer) → ℕ → List Answer
answers_of f items = tabulate f items ++ repeated (refusal 0) (64 - items)

-- The number, each answer, the output and the scratch of a call with this fault as a whole: a refusal of the whole call changes nothing;
-- else each item has what the single call gives, and the scratch is zero, also with no items or with refused ones.
pub record AllThinned (fault : ℕ) (matrix : List Float) (m n items : ℕ) (list : Items) (output numbers : List Float) (indices : List ℕ)
    (r : Answers) (output' numbers' : List Float) (indices' : List ℕ) : Type 0 where
  pub number : r.number ≡ fault
  pub answers : r.items ≡ pick (eqb r.number 0)
      (answers_of (item_answer matrix m n list (length numbers) (length indices)) items)
      (repeated (refusal 0) 64)
  pub writes : output' ≡ pick (eqb r.number 0)
      (joined (item_output matrix m n list (length numbers) (length indices) output) items)
      output
  pub floats : numbers' ≡ pick (eqb r.number 0) (repeated plus_zero (length numbers)) numbers
  pub words : indices' ≡ pick (eqb r.number 0) (repeated 0 (length indices)) indices

-- of a call on doubles
abbrev pub ThinnedAll : List Float → ℕ → ℕ → ℕ → Items → List Float → List Float → List ℕ → Answers → List Float → List Float → List ℕ
    → Type 0
ThinnedAll matrix m n items list output numbers indices r output' numbers' indices' =
    AllThinned (call_fault matrix m n items list (length output) (length numbers) (length indices)) matrix m n items list output numbers
    indices r output' numbers' indices'

-- of one on bits: each item has what the single call gives on the doubles that they stand for
abbrev pub BitsThinnedAll : List ℕ → ℕ → ℕ → ℕ → Items → List Float → List Float → List ℕ → Answers → List Float → List Float → List ℕ
    → Type 0
BitsThinnedAll bits m n items list output numbers indices r output' numbers' indices' =
    AllThinned (bits_call_fault bits m n items list (length output) (length numbers) (length indices)) (expanded bits m n) m n items list
    output numbers indices r output' numbers' indices'
