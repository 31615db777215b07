-- What a list of indices has: all that pass a test are chosen, and a sort loses none.
use Prim.Native.Nat.{ℕ, zero, suc, ◌≤◌, ◌<◌}
use mathlib.Core.Path.{◌≡◌, refl, sym, ap, ◌∙◌}
use mathlib.Core.Bool.{Bool, true, false}
use mathlib.Core.List.{List, [], ◌∷◌, ◌++◌}
use native.Mathlib.Decide.{ℕ_discrete}
use native.Mathlib.Omega.{arith}
use lib.ListN.{length, get_or, length-append}
use Rattle.seq.specs.Choice.{pick}
use Rattle.seq.specs.Keep.{keep, count}
use Rattle.seq.specs.Sort.{put_in, sorted}
use Rattle.doubling.specs.Doubling.{those_to}
use Rattle.doubling.proofs.Once.{Every, none, both, Fresh, Distinct, empty, joined}
use Rattle.passed.proofs.Fates.{Among}

-- j is one of them
pub data Has (j : ℕ) : List ℕ → Type 0 where
  here : {y : ℕ} {ys : List ℕ} → y ≡ j → Has j (y ∷ ys)
  later : {y : ℕ} {ys : List ℕ} → Has j ys → Has j (y ∷ ys)

-- at some place
pub has_among : {j : ℕ} {xs : List ℕ} → Has j xs → Among xs j
has_among (here e) = record { place = 0; under = omega arith; there = e }
has_among (later h) = let a = has_among h in record { place = suc a.place; under = omega (arith, a.under); there = a.there }

pub has_at : (xs : List ℕ) (p : ℕ) → p < length xs → Has (get_or xs p 0) xs
has_at [] p l = absurd (omega arith)
has_at (x ∷ xs) zero l = here refl
has_at (x ∷ xs) (suc p) l = later (has_at xs p (omega arith))

pub has_left : (ys : List ℕ) {j : ℕ} {xs : List ℕ} → Has j xs → Has j (xs ++ ys)
has_left ys (here e) = here e
has_left ys (later h) = later (has_left ys h)

pub has_right : (xs : List ℕ) {j : ℕ} {ys : List ℕ} → Has j ys → Has j (xs ++ ys)
has_right [] h = h
has_right (x ∷ xs) h = later (has_right xs h)

has_end : (x : ℕ) {j : ℕ} {xs : List ℕ} → Has j xs → Has j (xs ++ (x ∷ []))
has_end x (here e) = here e
has_end x (later h) = later (has_end x h)

has_last : (x : ℕ) (xs : List ℕ) → Has x (xs ++ (x ∷ []))
has_last x [] = here refl
has_last x (y ∷ ys) = later (has_last x ys)

-- ---- what is distinct, and all in another list, is no longer than it

-- the list without j
less : {j : ℕ} {ys : List ℕ} → Has j ys → List ℕ
less (here {y} {ys} e) = ys
less (later {y} {ys} h) = y ∷ less h

length-less : {j : ℕ} {ys : List ℕ} (h : Has j ys) → suc (length (less h)) ≡ length ys
unfolding less
length-less (here e) = refl
length-less (later h) = ap suc (length-less h)

has_less : {i j : ℕ} {ys : List ℕ} (h : Has i ys) → (i ≡ j → ⊥) → Has j ys → Has j (less h)
unfolding less
has_less (here e) n (here f) = absurd (n (sym e ∙ f))
has_less (here e) n (later k) = k
has_less (later h) n (here f) = here f
has_less (later h) n (later k) = later (has_less h n k)

pub no_longer : {xs : List ℕ} (ys : List ℕ) → Distinct xs → Every (λ j. Has j ys) xs → length xs ≤ length ys
no_longer ys empty none = omega arith
no_longer ys (joined fresh d) (both a r) = omega (arith, length-less a, no_longer (less a) d (others a fresh r))
  where
    others : {x : ℕ} {xs : List ℕ} (h : Has x ys) → Fresh x xs → Every (λ j. Has j ys) xs → Every (λ j. Has j (less h)) xs
    others h none none = none
    others h (both f s) (both a r) = both (has_less h f a) (others h s r)

-- ---- what is chosen

-- all that pass are kept
pub has_keep : (f : ℕ → Bool) (k j : ℕ) → j < k → f j ≡ true → Has j (keep f k)
unfolding keep
has_keep f zero j l e = absurd (omega arith)
has_keep f (suc k) j l e = go (f k) refl (ℕ_discrete j k) (has_keep f k j)
  where
    go : (t : Bool) → f k ≡ t → Dec (j ≡ k) → (j < k → f j ≡ true → Has j (keep f k)) → Has j (pick t (keep f k ++ (k ∷ [])) (keep f k))
    go true g (yes s) r = rw s (has_last k (keep f k))
    go true g (no s) r = has_end k (r (omega arith) e)
    go false g (yes s) r = let matrix : ◌≡◌ {A = Bool} true false = sym e ∙ ap f s ∙ g in let z : ◌≡◌ {A = ℕ} 0 1 = cc in absurd (omega arith)
    go false g (no s) r = r (omega arith) e

-- and of some indices all that pass are chosen
pub has_those : (f : ℕ → Bool) (xs : List ℕ) (k p : ℕ) → p < k → f (get_or xs p 0) ≡ true → Has (get_or xs p 0) (those_to f xs k)
unfolding those_to
has_those f xs zero p l e = absurd (omega arith)
has_those f xs (suc k) p l e = go (f (get_or xs k 0)) refl (ℕ_discrete p k) (has_those f xs k p)
  where
    go : (t : Bool) → f (get_or xs k 0) ≡ t → Dec (p ≡ k) → (p < k → f (get_or xs p 0) ≡ true → Has (get_or xs p 0) (those_to f xs k))
        → Has (get_or xs p 0) (pick t (those_to f xs k ++ (get_or xs k 0 ∷ [])) (those_to f xs k))
    go true g (yes s) r = rw s (has_last (get_or xs k 0) (those_to f xs k))
    go true g (no s) r = has_end (get_or xs k 0) (r (omega arith) e)
    go false g (yes s) r = let matrix : ◌≡◌ {A = Bool} true false = sym e ∙ ap (λ (i : ℕ). f (get_or xs i 0)) s ∙ g in let z : ◌≡◌
        {A = ℕ} 0 1 = cc in absurd (omega arith)
    go false g (no s) r = r (omega arith) e

-- as many as pass
pub length_those : (f : ℕ → Bool) (xs : List ℕ) (k : ℕ) → length (those_to f xs k) ≡ count (λ p. f (get_or xs p 0)) k
unfolding those_to count
length_those f xs zero = refl
length_those f xs (suc k) = go (f (get_or xs k 0)) (length_those f xs k)
  where
    go : (t : Bool) → length (those_to f xs k) ≡ count (λ p. f (get_or xs p 0)) k
        → length (pick t (those_to f xs k ++ (get_or xs k 0 ∷ [])) (those_to f xs k)) ≡ pick t (suc (count (λ p. f (get_or xs p 0)) k))
        (count (λ p. f (get_or xs p 0)) k)
    go true e = rw length-append (omega arith)
    go false e = e

-- ---- a sort

has_put_new : (b : ℕ → ℕ → Bool) (x : ℕ) (ys : List ℕ) → Has x (put_in b x ys)
unfolding put_in
has_put_new b x [] = here refl
has_put_new b x (y ∷ ys) = go (b x y) (has_put_new b x ys)
  where
    go : (t : Bool) → Has x (put_in b x ys) → Has x (pick t (x ∷ y ∷ ys) (y ∷ put_in b x ys))
    go true r = here refl
    go false r = later r

has_put : (b : ℕ → ℕ → Bool) (x : ℕ) {j : ℕ} {ys : List ℕ} → Has j ys → Has j (put_in b x ys)
unfolding put_in
has_put b x {j} (here {y} {ys} e) = go (b x y)
  where
    go : (t : Bool) → Has j (pick t (x ∷ y ∷ ys) (y ∷ put_in b x ys))
    go true = later (here e)
    go false = here e
has_put b x {j} (later {y} {ys} h) = go (b x y) (has_put b x h)
  where
    go : (t : Bool) → Has j (put_in b x ys) → Has j (pick t (x ∷ y ∷ ys) (y ∷ put_in b x ys))
    go true r = later (later h)
    go false r = later r

pub has_sorted : (b : ℕ → ℕ → Bool) (f : ℕ → ℕ) (i m : ℕ) → m < i → Has (f m) (sorted b f i)
unfolding sorted
has_sorted b f zero m l = absurd (omega arith)
has_sorted b f (suc i) m l = go (ℕ_discrete m i) (has_sorted b f i m)
  where
    go : Dec (m ≡ i) → (m < i → Has (f m) (sorted b f i)) → Has (f m) (put_in b (f i) (sorted b f i))
    go (yes e) r = rw e (has_put_new b (f i) (sorted b f i))
    go (no e) r = has_put b (f i) (r (omega arith))
