-- Lists of indices in which each stands once, and what holds of each element: through the choice by a test, the sort and the rest after the first few.
use Prim.Native.Nat.{ℕ, zero, suc, ◌≤◌, ◌<◌}
use mathlib.Core.Path.{◌≡◌, refl, sym, ap}
use mathlib.Core.Bool.{Bool, true, false}
use mathlib.Core.List.{List, [], ◌∷◌, ◌++◌}
use native.Mathlib.Omega.{arith}
use lib.ListN.{length, get_or, take, drop}
use lib.Seq.{take-suc}
use Rattle.seq.specs.Choice.{pick}
use Rattle.seq.specs.Keep.{keep}
use Rattle.seq.specs.Sort.{put_in, sorted}
use Rattle.seq.proofs.Keeping.{keep-good}
use Rattle.doubling.specs.Doubling.{those_to}

-- P holds of each element
pub data Every (P : ℕ → Type 0) : List ℕ → Type 0 where
  none : Every P []
  both : {y : ℕ} {ys : List ℕ} → P y → Every P ys → Every P (y ∷ ys)

-- x is none of them
abbrev pub Fresh : ℕ → List ℕ → Type 0
Fresh x xs = Every (λ y. x ≡ y → ⊥) xs

-- each stands once
pub data Distinct : List ℕ → Type 0 where
  empty : Distinct []
  joined : {x : ℕ} {xs : List ℕ} → Fresh x xs → Distinct xs → Distinct (x ∷ xs)

module _ {P : ℕ → Type 0} where
  pub every_at : {xs : List ℕ} → Every P xs → (p : ℕ) → p < length xs → P (get_or xs p 0)
  every_at none p h = absurd (omega arith)
  every_at (both a r) zero h = a
  every_at (both a r) (suc p) h = every_at r p (omega arith)

  pub every_of : (xs : List ℕ) → ((p : ℕ) → p < length xs → P (get_or xs p 0)) → Every P xs
  every_of [] h = none
  every_of (x ∷ xs) h = both (h 0 (omega arith)) (every_of xs (λ p l. h (suc p) (omega arith)))

  pub every_end : {xs : List ℕ} {x : ℕ} → Every P xs → P x → Every P (xs ++ (x ∷ []))
  every_end none k = both k none
  every_end (both a r) k = both a (every_end r k)

  pub every_drop : (n : ℕ) {xs : List ℕ} → Every P xs → Every P (drop n xs)
  every_drop zero r = r
  every_drop (suc n) none = none
  every_drop (suc n) (both a r) = every_drop n r

  pub every_put : (b : ℕ → ℕ → Bool) (x : ℕ) → P x → {ys : List ℕ} → Every P ys → Every P (put_in b x ys)
  unfolding put_in
  every_put b x h none = both h none
  every_put b x h (both {y} {ys} a r) = go (b x y) (every_put b x h r)
    where
      go : (t : Bool) → Every P (put_in b x ys) → Every P (pick t (x ∷ y ∷ ys) (y ∷ put_in b x ys))
      go true k = both h (both a r)
      go false k = both a k

  pub every_sorted : (b : ℕ → ℕ → Bool) (f : ℕ → ℕ) (i : ℕ) → ((m : ℕ) → m < i → P (f m)) → Every P (sorted b f i)
  unfolding sorted
  every_sorted b f zero h = none
  every_sorted b f (suc i) h = every_put b (f i) (h i (omega arith)) (every_sorted b f i (λ m l. h m (omega arith)))

-- of the first k those that pass the test pass it, and are of the first k
pub every_those : {P : ℕ → Type 0} (f : ℕ → Bool) (xs : List ℕ) (k : ℕ) → ((q : ℕ) → q < k → P (get_or xs q 0)) → Every (λ x. (f x ≡ true) × P x) (those_to f xs k)
unfolding those_to
every_those f xs zero h = none
every_those {P} f xs (suc k) h = go (f (get_or xs k 0)) refl (every_those f xs k (λ q l. h q (omega arith)))
  where
    go : (t : Bool) → f (get_or xs k 0) ≡ t → Every (λ x. (f x ≡ true) × P x) (those_to f xs k)
        → Every (λ x. (f x ≡ true) × P x) (pick t (those_to f xs k ++ (get_or xs k 0 ∷ [])) (those_to f xs k))
    go true e r = every_end r (e, h k (omega arith))
    go false e r = r

pub every_map : {P Q : ℕ → Type 0} → ((x : ℕ) → P x → Q x) → {xs : List ℕ} → Every P xs → Every Q xs
every_map f none = none
every_map f (both {y} a r) = both (f y a) (every_map f r)

-- ---- each once

pub distinct_at : {xs : List ℕ} → Distinct xs → (p q : ℕ) → p < length xs → q < length xs → get_or xs p 0 ≡ get_or xs q 0 → p ≡ q
distinct_at empty p q h l e = absurd (omega arith)
distinct_at (joined a r) zero zero h l e = refl
distinct_at (joined a r) zero (suc q) h l e = absurd (every_at a q (omega arith) e)
distinct_at (joined a r) (suc p) zero h l e = absurd (every_at a p (omega arith) (sym e))
distinct_at (joined a r) (suc p) (suc q) h l e = ap suc (distinct_at r p q (omega arith) (omega arith) e)

pub distinct_end : {xs : List ℕ} {x : ℕ} → Distinct xs → Every (λ y. y ≡ x → ⊥) xs → Distinct (xs ++ (x ∷ []))
distinct_end empty none = joined none empty
distinct_end (joined a r) (both k s) = joined (every_end a k) (distinct_end r s)

pub distinct_drop : (n : ℕ) {xs : List ℕ} → Distinct xs → Distinct (drop n xs)
distinct_drop zero r = r
distinct_drop (suc n) empty = empty
distinct_drop (suc n) (joined a r) = distinct_drop n r

pub distinct_put : (b : ℕ → ℕ → Bool) (x : ℕ) {ys : List ℕ} → Fresh x ys → Distinct ys → Distinct (put_in b x ys)
unfolding put_in
distinct_put b x none empty = joined none empty
distinct_put b x (both {y} {ys} k s) (joined a r) = go (b x y) (distinct_put b x s r)
  where
    go : (t : Bool) → Distinct (put_in b x ys) → Distinct (pick t (x ∷ y ∷ ys) (y ∷ put_in b x ys))
    go true d = joined (both k s) (joined a r)
    go false d = joined (every_put b x (λ e. k (sym e)) a) d

pub distinct_sorted : (b : ℕ → ℕ → Bool) (f : ℕ → ℕ) (i : ℕ) → ((m n : ℕ) → m < n → n < i → f n ≡ f m → ⊥) → Distinct (sorted b f i)
unfolding sorted
distinct_sorted b f zero h = empty
distinct_sorted b f (suc i) h =
    distinct_put b (f i) (every_sorted b f i (λ m l. h m i l (omega arith))) (distinct_sorted b f i (λ m n l g. h m n l (omega arith)))

pub distinct_keep : (f : ℕ → Bool) (k : ℕ) → Distinct (keep f k)
unfolding keep
distinct_keep f zero = empty
distinct_keep f (suc k) = go (f k) (distinct_keep f k)
  where
    under : (x : ℕ) → x < k → x ≡ k → ⊥
    under x l e = omega arith

    go : (t : Bool) → Distinct (keep f k) → Distinct (pick t (keep f k ++ (k ∷ [])) (keep f k))
    go true d = distinct_end d (every_of (keep f k) (λ p l. under (get_or (keep f k) p 0) (keep-good f k p l).1))
    go false d = d

pub distinct_those : (f : ℕ → Bool) {xs : List ℕ} → Distinct xs → (k : ℕ) → k ≤ length xs → Distinct (those_to f xs k)
unfolding those_to
distinct_those f d zero h = empty
distinct_those f {xs} d (suc k) h = go (f (get_or xs k 0)) (distinct_those f d k (omega arith))
  where
    apart : (q : ℕ) → q < k → get_or xs q 0 ≡ get_or xs k 0 → ⊥
    apart q l e = let same : q ≡ k = distinct_at d q k (omega arith) (omega arith) e in omega arith

    go : (t : Bool) → Distinct (those_to f xs k) → Distinct (pick t (those_to f xs k ++ (get_or xs k 0 ∷ [])) (those_to f xs k))
    go true r = distinct_end r (every_map (λ x a. a.1) (every_those {P = λ y. y ≡ get_or xs k 0 → ⊥} f xs k apart))
    go false r = r

-- where each passes all are chosen
pub those_all : (f : ℕ → Bool) (xs : List ℕ) (k : ℕ) → k ≤ length xs → ((q : ℕ) → q < k → f (get_or xs q 0) ≡ true) → those_to f xs k ≡ take k xs
unfolding those_to
those_all f xs zero h e = refl
those_all f xs (suc k) h e = rw (e k (omega arith), those_all f xs k (omega arith) (λ q l. e q (omega arith)), take-suc xs k 0 h)
