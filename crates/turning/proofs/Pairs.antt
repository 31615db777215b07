-- Lists of equal length whose elements stand in a relation, place by place; what keeps that; and a loop of two runs whose states stay related.
use Prim.Native.Nat.{ℕ, zero, suc, ◌+◌, ◌<◌, ◌≤◌}
use mathlib.Core.Path.{◌≡◌, refl, sym, ap, ◌∙◌, subst}
use mathlib.Core.Bool.{Bool, true, false}
use mathlib.Core.List.{List, [], ◌∷◌, ◌++◌}
use native.Mathlib.Decide.{dec_lt}
use native.Mathlib.Omega.{arith}
use lib.Dec.{eqb}
use borrow.Author.Tests.{eqb-true, eqb-false}
use lib.ListN.{length, get_or, set, length-set, length-append, get_or-eq_default, get_or-append}
use lib.Seq.{get_or-set_same, get_or-set_other, get_or_at}
use Rattle.seq.specs.Choice.{pick}
use Rattle.seq.specs.Lists.{tabulate}
use Rattle.seq.specs.Until.{run}
use Rattle.seq.proofs.Filling.{length-tab, get_or-tab}

-- as long as each other, and related at each place
pub record Each {A : Type 0} (R : ℕ → A → A → Type 0) (xs ys : List A) : Type 0 where
  pub long : length xs ≡ length ys
  pub each : (d : A) (i : ℕ) → i < length xs → R i (get_or xs i d) (get_or ys i d)

-- two values that each equal one of two related values
carried : {A : Type 0} (P : A → A → Type 0) {x y x' y' : A} → x ≡ x' → y ≡ y' → P x' y' → P x y
carried {A} P {x} {y} {x'} {y'} p q r = subst (λ (u : A). P u y) (sym p) (subst (λ (u : A). P x' u) (sym q) r)

module _ {A : Type 0} {R : ℕ → A → A → Type 0} where
  pub each_none : Each R [] []
  each_none = record { long = refl; each = λ d i h. absurd (omega arith) }

  pub each_at : {xs ys : List A} (d : A) → ((i : ℕ) → R i d d) → Each R xs ys → (i : ℕ) → R i (get_or xs i d) (get_or ys i d)
  each_at {xs} {ys} d e p i = go (dec_lt i (length xs))
    where
      go : Dec (i < length xs) → R i (get_or xs i d) (get_or ys i d)
      go (yes h) = p.each d i h
      go (no h) =
          let l : length xs ≤ i = omega arith in
          let m : length ys ≤ i = omega arith in
          carried (R i) (get_or-eq_default xs d l) (get_or-eq_default ys d m) (e i)

  pub each_set : {xs ys : List A} {x y : A} → Each R xs ys → (i : ℕ) → R i x y → Each R (set xs i x) (set ys i y)
  each_set {xs} {ys} {x} {y} p i q =
      record { long = length-set xs i x ∙ p.long ∙ sym (length-set ys i y); each = λ d j h. go d j (rw (length-set xs i x) at h) (eqb j i) refl }
    where
      go : (d : A) (j : ℕ) → j < length xs → (t : Bool) → eqb j i ≡ t → R j (get_or (set xs i x) j d) (get_or (set ys i y) j d)
      go d j h true e =
          let same : j ≡ i = eqb-true j i e in
          let l : i < length xs = omega arith in
          let m : i < length ys = omega arith in
          subst (λ (k : ℕ). R k (get_or (set xs i x) k d) (get_or (set ys i y) k d)) (sym same)
          (carried (R i) (get_or-set_same xs i x d l) (get_or-set_same ys i y d m) q)
      go d j h false e = carried (R j) (get_or-set_other xs i j x d (eqb-false j i e)) (get_or-set_other ys i j y d (eqb-false j i e)) (p.each d j h)

  -- one element more
  pub each_more : {xs ys : List A} {x y : A} → Each R xs ys → R (length xs) x y → Each R (xs ++ (x ∷ [])) (ys ++ (y ∷ []))
  each_more {xs} {ys} {x} {y} p q =
      record {
        long = length-append xs (x ∷ []) ∙ ap (λ (k : ℕ). k + 1) p.long ∙ sym (length-append ys (y ∷ []));
        each = λ d i h. go d i (rw (length-append xs (x ∷ [])) at h) (dec_lt i (length xs));
      }
    where
      go : (d : A) (i : ℕ) → i < length xs + 1 → Dec (i < length xs) → R i (get_or (xs ++ (x ∷ [])) i d) (get_or (ys ++ (y ∷ [])) i d)
      go d i h (yes l) =
          let m : i < length ys = omega arith in
          carried (R i) (get_or-append xs (x ∷ []) d i l) (get_or-append ys (y ∷ []) d i m) (p.each d i l)
      go d i h (no l) =
          let e : length xs ≡ i = omega arith in
          carried (R i) (get_or_at xs x [] d i e) (get_or_at ys y [] d i (sym p.long ∙ e)) (subst (λ (k : ℕ). R k x y) e q)

  -- of lengths that are equal
  pub each_tabs : (f g : ℕ → A) {k m : ℕ} → k ≡ m → ((i : ℕ) → R i (f i) (g i)) → Each R (tabulate f k) (tabulate g m)
  each_tabs f g {k} {m} e h =
      record {
        long = length-tab f k ∙ e ∙ sym (length-tab g m);
        each = λ d i l. at_each d i (rw (length-tab f k) at l);
      }
    where
      at_each : (d : A) (i : ℕ) → i < k → R i (get_or (tabulate f k) i d) (get_or (tabulate g m) i d)
      at_each d i l =
          let n : i < m = omega arith in
          carried (R i) (get_or-tab f k i d l) (get_or-tab g m i d n) (h i)

  pub each_tab : (f g : ℕ → A) (k : ℕ) → ((i : ℕ) → R i (f i) (g i)) → Each R (tabulate f k) (tabulate g k)
  each_tab f g k h = each_tabs f g refl h

  pub each_same : ((i : ℕ) (x : A) → R i x x) → (xs : List A) → Each R xs xs
  each_same h xs = record { long = refl; each = λ d i l. h i (get_or xs i d) }

-- a choice by equal tests
pub pick-both : {A : Type 0} (R : A → A → Type 0) {t t' : Bool} {x x' y y' : A} → t ≡ t' → (t ≡ true → R x x') → R y y' → R (pick t x y) (pick t' x' y')
pick-both R {t} {t'} {x} {x'} {y} {y'} e p q = subst (λ (u : Bool). R (pick t x y) (pick u x' y')) e (go t p)
  where
    go : (t : Bool) → (t ≡ true → R x x') → R (pick t x y) (pick t x' y')
    go true p = p refl
    go false p = q

-- steps that keep a relation which the test cannot see
module _ {S : Type 0} (R : S → S → Type 0) (done : S → Bool) (f g : S → S) (ends : (s t : S) → R s t → done s ≡ done t)
    (goes : (s t : S) → R s t → R (f s) (g t)) where
  run_along : (k : ℕ) (s t : S) → R s t → R (run done f k s) (run done g k t)
  unfolding run
  run_along zero s t r = r
  run_along (suc k) s t r = pick-both R (ends s t r) (λ _. r) (run_along k (f s) (g t) (goes s t r))

  -- with equal fuel
  pub run-both : {k m : ℕ} → k ≡ m → (s t : S) → R s t → R (run done f k s) (run done g m t)
  run-both {k} {m} e s t r = subst (λ (j : ℕ). R (run done f k s) (run done g j t)) e (run_along k s t r)
