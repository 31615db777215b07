-- Without rows the list is empty. Without columns every change is +0.0, and the rows stand as they are numbered.
use borrow.Author.Tests.{le-ltb}
use Prim.Native.Nat.{ℕ, zero, suc, ◌-◌, ◌≤◌, ◌<◌}
use mathlib.Core.Path.{◌≡◌, refl, sym, ap, ◌∙◌, subst}
use mathlib.Core.Bool.{false}
use mathlib.Core.List.{List}
use native.Mathlib.Nat.{le_refl}
use native.Mathlib.Omega.{arith}
use native.Mathlib.Decide.{dec_lt}
use native.Mathlib.Numerals.{add-one}
use lib.Dec.{T, ltb}
use lib.ListN.{length, get_or, take, get_or-eq_default}
use lib.Ieee.{Float, nan, binary64, fits}
use lib.Ieee.Fits.{nan-fits}
use Rattle.seq.specs.Lists.{repeated}
use Rattle.seq.specs.Sums.{plus_zero, at}
use Rattle.seq.proofs.Filling.{length-tab, get_or-tab}
use Rattle.ieee.specs.Magnitude.{above_of}
use Rattle.ieee.proofs.Signs.{nought_is, nought-finite}
use Rattle.ieee.proofs.ByMagnitude.{height, above_is}
use Rattle.change.specs.Margins.{change_to}
use Rattle.ranking.specs.Ranking.{heavier}
use Rattle.arranged.specs.Arranged.{EachOnce, InOrder, up_to}
use Rattle.marking.specs.Moved.{moved_rows}
use Rattle.sorting.proofs.Answers.{only-moved}
use Rattle.arranged.proofs.Heights.{heavier_order}
use Rattle.arranged.proofs.Ordered.{itself, order_start, order_more, order_all}
use Rattle.movefaults.specs.Changes.{changes_of}
use Rattle.movefaults.specs.Answers.{lent_changes, Listed}
use Rattle.moving.proofs.Promises.{listed_index, as_many_rows}

zero_fits : T (fits binary64 plus_zero)
zero_fits = subst (λ x. T (fits binary64 x)) (sym nought_is) (nought-finite binary64 false).held

-- nothing stands above itself
level : ltb (height binary64 plus_zero) (height binary64 plus_zero) ≡ false
level = le-ltb (height binary64 plus_zero) (height binary64 plus_zero) (le_refl (height binary64 plus_zero))

-- ---- n changes, all +0.0
module _ (n : ℕ) where
  abbrev nothing : List Float
  nothing = repeated plus_zero n

  nothing-at : (i : ℕ) → i < n → at nothing i ≡ plus_zero
  nothing-at i h = get_or-tab (λ k. plus_zero) n i nan h

  nothing-fits : (i : ℕ) → T (fits binary64 (at nothing i))
  nothing-fits i = go (dec_lt i n)
    where
      go : Dec (i < n) → T (fits binary64 (at nothing i))
      go (yes l) = subst (λ x. T (fits binary64 x)) (sym (nothing-at i l)) zero_fits
      go (no l) =
          subst (λ x. T (fits binary64 x)) (sym (get_or-eq_default nothing nan {n = i} (omega (arith, length-tab (λ k. plus_zero) n)))) (nan-fits binary64)

  -- a later row is not ahead of an earlier one
  behind : (i j : ℕ) → i < n → j < i → heavier nothing i j ≡ false
  unfolding heavier
  behind i j h g =
      let same : above_of plus_zero plus_zero ≡ false = above_is binary64 plus_zero plus_zero zero_fits zero_fits ∙ level in
      rw (nothing-at i h, nothing-at j (omega arith), same, le-ltb i j (omega arith))

  in_order-to : (i : ℕ) → suc i ≤ n → InOrder (heavier nothing) (take (suc i) (up_to n))
  in_order-to zero h = order_start (heavier nothing) (up_to n)
  in_order-to (suc i) h =
      let l = length-tab (λ k. k) n in
      let later : get_or (up_to n) (suc i) 0 ≡ suc i = get_or-tab (λ k. k) n (suc i) 0 h in
      let d : suc i - 1 ≡ i = omega arith in
      let earlier : get_or (up_to n) (suc i - 1) 0 ≡ i = ap (λ k. get_or (up_to n) k 0) d ∙ get_or-tab (λ k. k) n i 0 (omega arith) in
      subst (λ k. InOrder (heavier nothing) (take k (up_to n))) (add-one (suc i))
      (order_more (heavier nothing) (heavier_order nothing nothing-fits) (up_to n) (suc i) (omega arith) (omega (arith, l))
      ((λ t. heavier nothing (later t) (earlier t)) ∙ behind (suc i) i h (omega arith))
      (in_order-to i (omega arith)))

  in_order : InOrder (heavier nothing) (up_to n)
  in_order = go n refl
    where
      go : (k : ℕ) → n ≡ k → InOrder (heavier nothing) (up_to n)
      go zero e = order_all (heavier nothing) (up_to n) 1 (omega (arith, length-tab (λ k. k) n)) (order_start (heavier nothing) (up_to n))
      go (suc k) e =
          order_all (heavier nothing) (up_to n) (suc k) (omega (arith, length-tab (λ k. k) n)) (in_order-to k (omega arith))

  pub nothing-moved : moved_rows nothing ≡ up_to n
  nothing-moved =
      sym
      (only-moved nothing nothing-fits (up_to n)
      (subst (λ k. EachOnce k (up_to n)) (sym (length-tab (λ k. plus_zero) n)) (itself (up_to n)))
      in_order)

-- ---- the calls
module _ (matrix : List Float) (n : ℕ) (before after : List Float) where
  no_changes : lent_changes matrix 0 n before after ≡ repeated plus_zero n
  unfolding changes_of change_to
  no_changes = refl

  pub no_columns : {rows : List ℕ} {changes : List Float} {r : ℕ} {rows' : List ℕ} {changes' : List Float}
      → Listed matrix 0 n before after rows changes r rows' changes' → r ≡ 0 → rows' ≡ up_to n
  no_columns p z = listed_index matrix 0 n before after p z ∙ ap moved_rows no_changes ∙ nothing-moved n

pub no_rows : (matrix : List Float) (m : ℕ) (before after : List Float) {rows : List ℕ} {changes : List Float} {r : ℕ} {rows' : List ℕ} {changes' : List Float}
    → Listed matrix m 0 before after rows changes r rows' changes' → r ≡ 0 → length rows' ≡ 0
no_rows matrix m before after p z = as_many_rows matrix m 0 before after p z
