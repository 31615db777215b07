-- What a call for several items was tested for, on doubles or on bits: with number 0 its matrix is lent whole, and the call on the doubles that it stands
-- for has no fault; so the items that are thinned on them leave what is promised.
use Prim.Native.Nat.{ℕ, zero, suc, ◌*◌, ◌<◌}
use mathlib.Core.Path.{◌≡◌, refl, sym, ◌∙◌}
use mathlib.Core.Bool.{true}
use mathlib.Core.List.{List, []}
use native.Mathlib.Omega.{arith}
use lib.Dec.{eqb-suc-zero}
use lib.ListN.{length}
use lib.Ieee.{Float}
use Rattle.limits.specs.Votes.{bytes_of, spare_clear, expanded}
use Rattle.limits.proofs.ReadsAs.{bits-whole, some_byte}
use Rattle.faults.proofs.Whole.{whole-bits, item_sized}
use Rattle.faults.proofs.AsDoubles.{none_outside, wholes_agree}
use Rattle.answers.proofs.Accepting.{sizes-good}
use Rattle.answers.proofs.Finishing.{doubles_whole}
use Rattle.items.specs.Items.{Items}
use Rattle.items.specs.All.{call_fault, bits_call_fault, AllThinned, ThinnedAll, BitsThinnedAll}
use Rattle.items.specs.Lent.{lent_as}
use Rattle.items.specs.Between.{Tested}
use Rattle.items.specs.declared.Answers.{Answers}
use Rattle.items.proofs.Turns.{called_of}
use Rattle.items.proofs.Lending.{lent-bits}

-- ---- the numbers

module _ (bits : List ℕ) (m n items : ℕ) (list : Items) (output numbers indices : ℕ) where
  -- both calls have one number
  pub calls_agree : length bits ≡ m * bytes_of n → spare_clear bits m n ≡ true
      → bits_call_fault bits m n items list output numbers indices ≡ call_fault (expanded bits m n) m n items list output numbers indices
  calls_agree area clear =
      wholes_agree bits m n area clear items (length list.weights) (length list.seeds) (length list.editions) (length list.rules)
      (length list.allowances) (length list.limits) output numbers indices

-- what a call on bits has that is not refused as a whole
pub record Taken (bits : List ℕ) (m n : ℕ) : Type 0 where
  pub area : length bits ≡ m * bytes_of n
  pub clear : spare_clear bits m n ≡ true

module _ (bits : List ℕ) (m n items : ℕ) (list : Items) (output numbers : List Float) (indices : List ℕ)
    (none : bits_call_fault bits m n items list (length output) (length numbers) (length indices) ≡ 0) where
  pub taken : Taken bits m n
  taken =
      let w = whole-bits items bits m n (length list.weights) (length list.seeds) (length list.editions) (length list.rules)
      (length list.allowances) (length list.limits) (length output) (length numbers) (length indices) none in
      record { area = w.0.columns; clear = w.1 }

  -- and so the call on the doubles is not refused
  pub taken_doubles : call_fault (expanded bits m n) m n items list (length output) (length numbers) (length indices) ≡ 0
  taken_doubles = sym (calls_agree bits m n items list (length output) (length numbers) (length indices) taken.area taken.clear) ∙ none

  -- and there is a byte
  some_bits : 0 < length bits
  some_bits =
      let s = sizes-good m n (length (expanded bits m n)) m m (length numbers) (length indices)
      (item_sized (called_of (expanded bits m n) m n items list output numbers indices taken_doubles).sized) in
      omega (arith, taken.area, some_byte m n s.columns s.rows)

  lent_is : lent_as [] bits m n ≡ expanded bits m n
  lent_is = lent-bits [] bits m n some_bits

-- ---- what is handed on, and what is left

module _ {fault m n items : ℕ} {list : Items} (output numbers : List Float) (indices : List ℕ) where
  pub tested_doubles : {matrix : List Float} → fault ≡ call_fault matrix m n items list (length output) (length numbers) (length indices)
      → Tested fault matrix [] m n items list (length output) (length numbers) (length indices)
  tested_doubles {matrix} e =
      record {
        fine = λ z. sym e ∙ z;
        lent = λ z. let c = called_of matrix m n items list output numbers indices (sym e ∙ z) in
            record { whole = doubles_whole matrix m n c.sized.columns; small = c.entries };
      }

  pub tested_bits : {bits : List ℕ} → fault ≡ bits_call_fault bits m n items list (length output) (length numbers) (length indices)
      → Tested fault [] bits m n items list (length output) (length numbers) (length indices)
  tested_bits {bits} e =
      record {
        fine = λ z. rw (lent_is bits m n items list output numbers indices (sym e ∙ z)) (taken_doubles bits m n items list output numbers indices (sym e ∙ z));
        lent = λ z. record {
          whole = bits-whole bits m n (taken bits m n items list output numbers indices (sym e ∙ z)).area;
          small = none_outside;
        };
      }

pub done_doubles : {matrix : List Float} {m n items : ℕ} {list : Items} {output numbers : List Float} {indices : List ℕ}
    {r : Answers} {output' numbers' : List Float} {indices' : List ℕ} {fault : ℕ}
    → fault ≡ call_fault matrix m n items list (length output) (length numbers) (length indices)
    → AllThinned fault matrix m n items list output numbers indices r output' numbers' indices'
    → ThinnedAll matrix m n items list output numbers indices r output' numbers' indices'
done_doubles e job = rw e at job

-- a call that is refused says nothing of the matrix
other_matrix : (fault : ℕ) {a b : List Float} {m n items : ℕ} {list : Items} {output numbers : List Float} {indices : List ℕ}
    {r : Answers} {output' numbers' : List Float} {indices' : List ℕ} → (fault ≡ 0 → a ≡ b)
    → AllThinned fault a m n items list output numbers indices r output' numbers' indices'
    → AllThinned fault b m n items list output numbers indices r output' numbers' indices'
other_matrix zero same job = rw (same refl) at job
other_matrix (suc k) same job =
    record {
      number = job.number;
      answers = rw (job.number, eqb-suc-zero k) (rw (job.number, eqb-suc-zero k) at job.answers);
      writes = rw (job.number, eqb-suc-zero k) (rw (job.number, eqb-suc-zero k) at job.writes);
      floats = job.floats;
      words = job.words;
    }

module _ (bits : List ℕ) {m n items : ℕ} {list : Items} {output numbers : List Float} {indices : List ℕ}
    {r : Answers} {output' numbers' : List Float} {indices' : List ℕ} where
  pub done-bits : {fault : ℕ} → fault ≡ bits_call_fault bits m n items list (length output) (length numbers) (length indices)
      → AllThinned fault (lent_as [] bits m n) m n items list output numbers indices r output' numbers' indices'
      → BitsThinnedAll bits m n items list output numbers indices r output' numbers' indices'
  done-bits {fault} e job =
      rw e at (other_matrix fault (λ z. lent_is bits m n items list output numbers indices (sym e ∙ z)) job)
