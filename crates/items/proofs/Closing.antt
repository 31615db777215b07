-- What a call for several items leaves: refused as a whole, or with the scratch wiped and every item done.
use Prim.Native.Nat.{ℕ}
use mathlib.Core.Path.{◌≡◌, sym, ap, ◌∙◌}
use mathlib.Core.List.{List}
use lib.ListN.{length}
use lib.Ieee.{Float}
use borrow.Author.Tests.{ne_eqb}
use Rattle.seq.specs.Lists.{repeated}
use Rattle.seq.specs.Sums.{plus_zero}
use Rattle.seq.proofs.Filling.{length-tab}
use Rattle.answers.specs.Answers.{refusal}
use Rattle.items.specs.Items.{Items}
use Rattle.items.specs.All.{call_fault, AllThinned}
use Rattle.items.specs.Between.{Zeros, Each}
use Rattle.items.specs.declared.Answers.{Answers}

-- what was cleared is as long as it was
cleared : {A : Type 0} (z : A) (k : ℕ) {xs : List A} → xs ≡ repeated z k → length xs ≡ k
cleared z k e = ap length e ∙ length-tab (λ i. z) k

module _ (matrix : List Float) (m n items : ℕ) (list : Items) (output numbers : List Float) (indices : List ℕ) where
  -- refused
  pub all_refused : {k : ℕ} {r : Answers} → (k ≡ 0 → ⊥) → r.number ≡ k → r.items ≡ repeated (refusal 0) 64
      → AllThinned k matrix m n items list output numbers indices r output numbers indices
  all_refused {k} h number answers =
      record {
        number = number;
        answers = answers ∙ sym (rw (number, ne_eqb k 0 h));
        writes = sym (rw (number, ne_eqb k 0 h));
        floats = sym (rw (number, ne_eqb k 0 h));
        words = sym (rw (number, ne_eqb k 0 h));
      }

  module _ {numbers₁ : List Float} {indices₁ : List ℕ} (floats : numbers₁ ≡ repeated plus_zero (length numbers))
      (words : indices₁ ≡ repeated 0 (length indices)) where
    -- the scratch was wiped
    pub wiped : call_fault matrix m n items list (length output) (length numbers) (length indices) ≡ 0
        → (call_fault matrix m n items list (length output) (length numbers₁) (length indices₁) ≡ 0) × Zeros numbers₁ indices₁
    wiped none = (
      rw (cleared plus_zero (length numbers) floats, cleared 0 (length indices) words) none,
      record {
        floats = floats ∙ ap (repeated plus_zero) (sym (cleared plus_zero (length numbers) floats));
        words = words ∙ ap (repeated 0) (sym (cleared 0 (length indices) words));
      },
    )

    -- and every item done
    pub all_done : {k : ℕ} → k ≡ 0
        → {r : Answers} {output' numbers' : List Float} {indices' : List ℕ} → Each matrix m n items list output numbers₁ indices₁ r output' numbers' indices'
        → AllThinned k matrix m n items list output numbers indices r output' numbers' indices'
    all_done none each =
        let e = cleared plus_zero (length numbers) floats in
        let f = cleared 0 (length indices) words in
        record {
          number = each.number ∙ sym none;
          answers = rw (e, f) at each.answers ∙ sym (rw each.number);
          writes = rw (e, f) at each.writes ∙ sym (rw each.number);
          floats = rw e at each.floats ∙ sym (rw each.number);
          words = rw f at each.words ∙ sym (rw each.number);
        }
