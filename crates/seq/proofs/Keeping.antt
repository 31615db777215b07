-- Laws of `keep` and `count`, and of a loop that appends to a buffer.
use Prim.Native.Nat.{ℕ, zero, suc, ◌+◌, ◌≤◌, ◌<◌}
use mathlib.Core.Path.{◌≡◌, refl, ap, ◌∙◌}
use mathlib.Core.Bool.{Bool, true, false}
use mathlib.Core.List.{List, [], ◌∷◌, ◌++◌}
use native.Mathlib.Decide.{dec_lt}
use native.Mathlib.Omega.{arith}
use native.Mathlib.Numerals.{add-one}
use lib.ListN.{length, get_or, set, length-set, length-append, get_or-append}
use lib.Seq.{take-suc-set, get_or_at}
use Rattle.seq.specs.Choice.{pick}
use Rattle.seq.specs.Keep.{keep, count}
use Rattle.seq.specs.Indices.{Pushed}

pub none : (v : List ℕ) → Pushed [] 0 v
none v = record { within = omega arith; front = refl; long = refl }

pub push : {xs : List ℕ} {n : ℕ} {v : List ℕ} (x : ℕ) → Pushed xs n v → n < length v → Pushed (xs ++ (x ∷ [])) (n + 1) (set v n x)
push {xs} {n} {v} x p h =
    record {
      within = rw length-set (omega arith);
      front = rw add-one (take-suc-set v n x h ∙ ap (λ l. l ++ (x ∷ [])) p.front);
      long = rw length-append (omega (arith, p.long));
    }

-- the two ways of a turn
pub keeps : (f : ℕ → Bool) (i : ℕ) → f i ≡ true → keep f (i + 1) ≡ keep f i ++ (i ∷ [])
unfolding keep
keeps f i h = rw (add-one, h)

pub skips : (f : ℕ → Bool) (i : ℕ) → f i ≡ false → keep f (i + 1) ≡ keep f i
unfolding keep
skips f i h = rw (add-one, h)

pub keep_short : (f : ℕ → Bool) (k : ℕ) → length (keep f k) ≤ k
unfolding keep
keep_short f zero = omega arith
keep_short f (suc k) = go (f k) (keep_short f k)
  where
    go : (t : Bool) → length (keep f k) ≤ k → length (pick t (keep f k ++ (k ∷ [])) (keep f k)) ≤ suc k
    go true h = rw length-append (omega arith)
    go false h = omega arith

-- every index that is kept passes the test, and is below
pub keep-good : (f : ℕ → Bool) (k p : ℕ) → p < length (keep f k) → (f (get_or (keep f k) p 0) ≡ true) × (get_or (keep f k) p 0 < k)
unfolding keep
keep-good f zero p h = absurd (omega arith)
keep-good f (suc k) p h = go (f k) refl h (keep-good f k p)
  where
    go : (t : Bool) → f k ≡ t → p < length (pick t (keep f k ++ (k ∷ [])) (keep f k))
        → (p < length (keep f k) → (f (get_or (keep f k) p 0) ≡ true) × (get_or (keep f k) p 0 < k))
        → (f (get_or (pick t (keep f k ++ (k ∷ [])) (keep f k)) p 0) ≡ true) × (get_or (pick t (keep f k ++ (k ∷ [])) (keep f k)) p 0 < suc k)
    go false e l r = ((r l).0, omega (arith, (r l).1))
    go true e l r = at (dec_lt p (length (keep f k)))
      where
        at : Dec (p < length (keep f k)) → (f (get_or (keep f k ++ (k ∷ [])) p 0) ≡ true) × (get_or (keep f k ++ (k ∷ [])) p 0 < suc k)
        at (yes g) = rw (get_or-append (keep f k) (k ∷ []) 0 p g) ((r g).0, omega (arith, (r g).1))
        at (no g) =
            let q : length (keep f k) ≡ p = omega (arith, length-append (keep f k) (k ∷ [])) in
            rw (get_or_at (keep f k) k [] 0 p q) (e, omega arith)

-- as many as `count` says
pub length-keep : (f : ℕ → Bool) (k : ℕ) → length (keep f k) ≡ count f k
unfolding keep count
length-keep f zero = refl
length-keep f (suc k) = go (f k) (length-keep f k)
  where
    go : (t : Bool) → length (keep f k) ≡ count f k → length (pick t (keep f k ++ (k ∷ [])) (keep f k)) ≡ pick t (suc (count f k)) (count f k)
    go true h = rw length-append (omega arith)
    go false h = h

-- what a count is at one more index, for each way that the test goes
pub counts : (f : ℕ → Bool) (i : ℕ) → f i ≡ true → count f (i + 1) ≡ count f i + 1
unfolding count
counts f i h = rw (add-one i, h) (omega arith)

pub passes : (f : ℕ → Bool) (i : ℕ) → f i ≡ false → count f (i + 1) ≡ count f i
unfolding count
passes f i h = rw (add-one i, h)

pub count_short : (f : ℕ → Bool) (k : ℕ) → count f k ≤ k
count_short f k = omega (arith, length-keep f k, keep_short f k)

pub count_same : (f g : ℕ → Bool) (k : ℕ) → ((i : ℕ) → i < k → f i ≡ g i) → count f k ≡ count g k
unfolding count
count_same f g zero h = refl
count_same f g (suc k) h = rw (count_same f g k (λ i l. h i (omega arith)), h k (omega arith))

-- one fewer, where the tests differ at p alone
pub count_less : (f g : ℕ → Bool) (p k : ℕ) → f p ≡ true → g p ≡ false → ((i : ℕ) → (i ≡ p → ⊥) → f i ≡ g i) → p < k → count f k ≡ suc (count g k)
unfolding count
count_less f g p zero t e h l = absurd (omega arith)
count_less f g p (suc k) t e h l = go (dec_lt p k) (count_less f g p k t e h)
  where
    last : (b : Bool) (c d : ℕ) → c ≡ suc d → pick b (suc c) c ≡ suc (pick b (suc d) d)
    last true c d q = ap suc q
    last false c d q = q

    go : Dec (p < k) → (p < k → count f k ≡ suc (count g k)) → pick (f k) (suc (count f k)) (count f k) ≡ suc (pick (g k) (suc (count g k)) (count g k))
    go (yes m) r = rw (h k (λ q. absurd (omega arith))) (last (g k) (count f k) (count g k) (r m))
    go (no m) r =
        let q : k ≡ p = omega arith in
        let a : f k ≡ true = ap f q ∙ t in
        let b : g k ≡ false = ap g q ∙ e in
        rw (a, b) (ap suc (count_same f g k (λ i j. h i (λ z. absurd (omega arith)))))
