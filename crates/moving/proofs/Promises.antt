-- What the list is, where the call is not refused: each row once, in order, its first change the measured one; and no second answer fits, so that a
-- list that is brought up to date is the list built anew.
use borrow.Author.Tests.{eq-eqb}
use Prim.Native.Nat.{ℕ, zero, suc, ◌≤◌, ◌<◌}
use mathlib.Core.Path.{◌≡◌, sym, ap, ◌∙◌, subst}
use mathlib.Core.List.{List}
use native.Mathlib.Omega.{arith}
use lib.Dec.{T, eqb}
use lib.ListN.{length, get_or}
use lib.Ieee.{Float, nan, binary64, fits}
use Rattle.seq.specs.Choice.{pick}
use Rattle.seq.specs.Sums.{at}
use Rattle.seq.proofs.Filling.{get_or-tab}
use Rattle.ieee.specs.Magnitude.{abs_of, largest_to, max_abs_to}
use Rattle.ieee.proofs.Signs.{nought_is}
use Rattle.limits.specs.Matrix.{columns_of}
use Rattle.change.specs.Margins.{change_to, max_change}
use Rattle.ranking.specs.Ranking.{heavier}
use Rattle.arranged.specs.Arranged.{EachOnce, InOrder}
use Rattle.marking.specs.Moved.{moved_rows, changes_at}
use Rattle.sorting.proofs.Answers.{moved-once, moved_order, length_moved}
use Rattle.sorting.proofs.First.{first_is_largest}
use Rattle.movefaults.specs.Answers.{lent_changes, Listed}
use Rattle.moving.proofs.Numbers.{length_changes, changes_at_lem, changes_numbers, changes_fit}
use Rattle.movefaults.proofs.Refusals.{passed}

-- ---- no second answer fits
module _ (matrix : List Float) (m n : ℕ) (before after : List Float) where
  pub moved_unique : (rows : List ℕ) (changes : List Float) (r s : ℕ) (rows₁ rows₂ : List ℕ) (changes₁ changes₂ : List Float)
      → Listed matrix m n before after rows changes r rows₁ changes₁ → Listed matrix m n before after rows changes s rows₂ changes₂ → (r ≡ s)
      × (rows₁ ≡ rows₂) × (changes₁ ≡ changes₂)
  moved_unique rows changes r s rows₁ rows₂ changes₁ changes₂ p q =
      let e : r ≡ s = p.number ∙ sym q.number in (
        e,
        p.index ∙ ap (λ k. pick (eqb k 0) (moved_rows (lent_changes matrix m n before after)) rows) e ∙ sym q.index,
        p.list ∙ ap (λ k. pick (eqb k 0) (changes_at (lent_changes matrix m n before after) (moved_rows (lent_changes matrix m n before after))) changes) e
            ∙ sym q.list,
      )

  -- what a call that is not refused leaves in the lists
  module _ {rows : List ℕ} {changes : List Float} {r : ℕ} {rows' : List ℕ} {changes' : List Float}
      (p : Listed matrix m n before after rows changes r rows' changes') (z : r ≡ 0) where
    abbrev w : List Float
    w = lent_changes matrix m n before after

    pub listed_index : rows' ≡ moved_rows w
    listed_index = p.index ∙ rw (eq-eqb r 0 z)

    pub listed_changes : changes' ≡ changes_at w (moved_rows w)
    listed_changes = p.list ∙ rw (eq-eqb r 0 z)

    pub each_row_once : EachOnce n rows'
    each_row_once =
        subst (λ k. EachOnce k rows') (length_changes (columns_of matrix n) m n before after) (subst (EachOnce (length w)) (sym listed_index) (moved-once w))

    pub as_many_rows : length rows' ≡ n
    as_many_rows = ap length listed_index ∙ length_moved w ∙ length_changes (columns_of matrix n) m n before after

    -- values of the format, as every lent double is
    module _ (fu : (i : ℕ) → T (fits binary64 (at matrix i))) (fb : (i : ℕ) → T (fits binary64 (at before i)))
        (fa : (i : ℕ) → T (fits binary64 (at after i))) where
      pub falling : InOrder (heavier w) rows'
      falling =
          let t = (passed matrix m n before after (length rows) (length changes) (sym p.number ∙ z)).taken in
          subst (InOrder (heavier w)) (sym listed_index) (moved_order w (changes_fit matrix m n before after t fu fb fa))

      -- the first entry's magnitude is the measured change
      pub first_is_measured : 0 < n → abs_of (at changes' 0) ≡ max_change (columns_of matrix n) m n before after
      unfolding max_change largest_to max_abs_to
      first_is_measured h =
          let t = (passed matrix m n before after (length rows) (length changes) (sym p.number ∙ z)).taken in
          let l = length_changes (columns_of matrix n) m n before after in
          ap (λ v. abs_of (at v 0)) listed_changes
          ∙ ap abs_of (get_or-tab (λ k. at w (get_or (moved_rows w) k 0)) (length (moved_rows w)) 0 nan (omega (arith, length_moved w, l)))
          ∙ first_is_largest w (changes_fit matrix m n before after t fu fb fa) (changes_numbers matrix m n before after t fu fb fa) (omega (arith, l))
          ∙ ap (largest_to (λ i. abs_of (at w i))) l
          ∙ same_largest n (omega arith)
        where
          same_largest : (k : ℕ) → k ≤ n → largest_to (λ i. abs_of (at w i)) k ≡ max_abs_to (λ i. change_to (columns_of matrix n) before after i m) k
          same_largest zero g = sym nought_is
          same_largest (suc k) g = rw (same_largest k (omega arith), changes_at_lem (columns_of matrix n) m n before after k (omega arith))

  -- brought up to date or built anew, from whatever lists
  pub same_again : {rows rows₂ : List ℕ} {changes changes₂ : List Float} {r s : ℕ} {rows' rows₂' : List ℕ} {changes' changes₂' : List Float}
      → Listed matrix m n before after rows changes r rows' changes' → Listed matrix m n before after rows₂ changes₂ s rows₂' changes₂' → r ≡ 0 → s ≡ 0
      → (rows' ≡ rows₂') × (changes' ≡ changes₂')
  same_again p q z y = (listed_index p z ∙ sym (listed_index q y), listed_changes p z ∙ sym (listed_changes q y))
