-- Laws of `put_back`, and of the marks that are set: what stands at each place afterwards, and how many marks are left.
use Prim.Native.Nat.{ℕ, zero, suc, ◌+◌, ◌≤◌, ◌<◌}
use mathlib.Core.Path.{◌≡◌, refl, sym, ap, ◌∙◌}
use mathlib.Core.Logic.{◌≢◌}
use mathlib.Core.Bool.{Bool, true, false}
use mathlib.Core.List.{List, [], ◌∷◌, ◌++◌}
use native.Mathlib.Omega.{arith}
use native.Mathlib.Numerals.{add-one}
use native.Mathlib.Decide.{dec_lt}
use lib.ListN.{length, get_or, set, length-set, length-append, get_or-append}
use lib.Seq.{get_or-set_same, get_or-set_other, get_or_at}
use Rattle.std.proofs.lemmas.List.{get_or_default, get_or_past}
use Rattle.seq.specs.Choice.{pick}
use Rattle.seq.specs.Keep.{keep, count}
use Rattle.seq.proofs.Keeping.{length-keep}
use Rattle.places.specs.Places.{put_back}

-- a test does not both pass and fail
pub off : ◌≡◌ {A = Bool} true false → ⊥
off e = let z : ◌≡◌ {A = ℕ} 0 1 = cc in omega arith

module _ {A : Type 0} where
  -- within a list the default is not read
  pub get_d_any : (xs : List A) (i : ℕ) (y z : A) → i < length xs → get_or xs i y ≡ get_or xs i z
  get_d_any = get_or_default

  -- past its end it is
  pub get_or_out : (xs : List A) (i : ℕ) (z : A) → length xs ≤ i → get_or xs i z ≡ z
  get_or_out = get_or_past

  pub length-put_back : (d : A) (places : List ℕ) (values v : List A) (k : ℕ) → length (put_back d places values v k) ≡ length v
  unfolding put_back
  length-put_back d places values v zero = refl
  length-put_back d places values v (suc k) = length-set (put_back d places values v k) (get_or places k 0) (get_or values k d) ∙ length-put_back d places values v k

  -- a turn of the loop that puts back
  pub put-more : (d z : A) (places : List ℕ) (values v v' : List A) (k : ℕ) → k < length values → v' ≡ put_back d places values v k
      → set v' (get_or places k 0) (get_or values k z) ≡ put_back d places values v (k + 1)
  unfolding put_back
  put-more d z places values v v' k h e = rw (add-one, e, get_d_any values k z d h)

  -- places that come later do not matter
  put_back_front : (d : A) (ps qs : List ℕ) (values v : List A) (k : ℕ) → k ≤ length ps → put_back d (ps ++ qs) values v k ≡ put_back d ps values v k
  unfolding put_back
  put_back_front d ps qs values v zero h = refl
  put_back_front d ps qs values v (suc k) h =
      rw (put_back_front d ps qs values v k (omega arith), get_or-append ps qs 0 k h)

  -- everything back at the places that a test keeps
  abbrev pub back : A → (ℕ → Bool) → List A → List A → ℕ → List A
  back d f values v n = put_back d (keep f n) values v (length (keep f n))

  back-kept : (d : A) (f : ℕ → Bool) (values v : List A) (n : ℕ) → f n ≡ true → back d f values v (suc n) ≡ set
      (back d f values v n) n (get_or values (count f n) d)
  unfolding put_back keep
  back-kept d f values v n e =
      let l : length (keep f n ++ (n ∷ [])) ≡ suc (length (keep f n)) = length-append (keep f n) (n ∷ []) ∙ omega arith in
      rw (
        e,
        l,
        put_back_front d (keep f n) (n ∷ []) values v (length (keep f n)) (omega arith),
        get_or_at (keep f n) n [] 0 (length (keep f n)) refl,
        length-keep f n,
      )

  back_skipped : (d : A) (f : ℕ → Bool) (values v : List A) (n : ℕ) → f n ≡ false → back d f values v (suc n) ≡ back d f values v n
  unfolding keep
  back_skipped d f values v n e = rw e

  -- a place that is not kept, or not below n, is as it was
  pub back_other : (d z : A) (f : ℕ → Bool) (values v : List A) (n j : ℕ) → (j < n → f j ≡ false) → get_or (back d f values v n) j z ≡ get_or v j z
  unfolding put_back keep
  back_other d z f values v zero j h = refl
  back_other d z f values v (suc n) j h = go (f n) refl (back_other d z f values v n j (λ l. h (omega arith)))
    where
      go : (t : Bool) → f n ≡ t → get_or (back d f values v n) j z ≡ get_or v j z → get_or (back d f values v (suc n)) j z ≡ get_or v j z
      go true e r =
          let ne : j ≢ n = λ q. let u : ◌≡◌ {A = Bool} true false = sym e ∙ sym (ap f q) ∙ h (omega arith) in absurd (off u) in
          ap (λ l. get_or l j z) (back-kept d f values v n e) ∙ get_or-set_other (back d f values v n) n j (get_or values (count f n) d) z ne ∙ r
      go false e r = ap (λ l. get_or l j z) (back_skipped d f values v n e) ∙ r

  -- a place that is kept holds its value
  pub back_at : (d z : A) (f : ℕ → Bool) (values v : List A) (n j : ℕ) → j < n → j < length v → f j ≡ true → get_or
      (back d f values v n) j z ≡ get_or values (count f j) d
  unfolding put_back keep
  back_at d z f values v zero j h l s = absurd (omega arith)
  back_at d z f values v (suc n) j h l s = go (f n) refl (dec_lt j n) (back_at d z f values v n j)
    where
      go : (t : Bool) → f n ≡ t → Dec (j < n) → (j < n → j < length v → f j ≡ true → get_or (back d f values v n) j z ≡ get_or values (count f j) d)
          → get_or (back d f values v (suc n)) j z ≡ get_or values (count f j) d
      go true e (yes g) r =
          let ne : j ≢ n = λ q. omega arith in
          ap (λ l. get_or l j z) (back-kept d f values v n e) ∙ get_or-set_other (back d f values v n) n j (get_or values (count f n) d) z ne ∙ r g l s
      go true e (no g) r =
          let q : j ≡ n = omega arith in
          rw q
          (ap (λ l. get_or l n z) (back-kept d f values v n e)
          ∙ get_or-set_same (back d f values v n) n (get_or values (count f n) d) z (rw (length-put_back d (keep f n) values v (length (keep f n))) (omega arith)))
      go false e (yes g) r = ap (λ l. get_or l j z) (back_skipped d f values v n e) ∙ r g l s
      go false e (no g) r =
          let q : j ≡ n = omega arith in
          absurd (off (sym s ∙ ap f q ∙ e))

-- ---- how many pass a test

pub count_none : (f : ℕ → Bool) (k : ℕ) → ((j : ℕ) → j < k → f j ≡ false) → count f k ≡ 0
unfolding count
count_none f zero h = refl
count_none f (suc k) h = rw (h k (omega arith)) (count_none f k (λ j l. h j (omega arith)))

pub count_all : (f : ℕ → Bool) (k : ℕ) → ((j : ℕ) → j < k → f j ≡ true) → count f k ≡ k
unfolding count
count_all f zero h = refl
count_all f (suc k) h = rw (h k (omega arith)) (ap suc (count_all f k (λ j l. h j (omega arith))))

-- where none passes, each fails
pub none_passes : (f : ℕ → Bool) (k j : ℕ) → count f k ≡ 0 → j < k → f j ≡ false
unfolding count
none_passes f zero j e h = absurd (omega arith)
none_passes f (suc k) j e h = go (f k) refl (dec_lt j k) e (none_passes f k j)
  where
    go : (t : Bool) → f k ≡ t → Dec (j < k) → pick t (suc (count f k)) (count f k) ≡ 0 → (count f k ≡ 0 → j < k → f j ≡ false) → f j ≡ false
    go true q d z r = absurd (omega arith)
    go false q (yes l) z r = r z l
    go false q (no l) z r =
        let s : j ≡ k = omega arith in
        rw s q

-- before one that passes fewer pass
pub count-before : (f : ℕ → Bool) (k j : ℕ) → j < k → f j ≡ true → count f j < count f k
unfolding count
count-before f zero j h e = absurd (omega arith)
count-before f (suc k) j h e = go (f k) refl (dec_lt j k) (count-before f k j)
  where
    go : (t : Bool) → f k ≡ t → Dec (j < k) → (j < k → f j ≡ true → count f j < count f k) → count f j < pick t (suc (count f k)) (count f k)
    go true q (yes l) r = omega (arith, r l e)
    go true q (no l) r =
        let s : j ≡ k = omega arith in
        rw s (omega arith)
    go false q (yes l) r = r l e
    go false q (no l) r =
        let s : j ≡ k = omega arith in
        absurd (off (sym e ∙ ap f s ∙ q))

-- g passes where f passes and h passes its number among those: then g passes as often as h
pub count_through : (f g h : ℕ → Bool) (n : ℕ) → ((j : ℕ) → j < n → f j ≡ true → g j ≡ h (count f j)) → ((j : ℕ) → j < n → f j ≡ false → g j ≡ false)
    → count g n ≡ count h (count f n)
unfolding count
count_through f g h zero s t = refl
count_through f g h (suc n) s t = go (f n) refl (count_through f g h n (λ j l. s j (omega arith)) (λ j l. t j (omega arith)))
  where
    go : (u : Bool) → f n ≡ u → count g n ≡ count h (count f n) → pick (g n) (suc (count g n)) (count g n) ≡ count h (pick u (suc (count f n)) (count f n))
    go true e r = rw (s n (omega arith) e, r)
    go false e r = rw (t n (omega arith) e, r)

-- what passes at k and after is the same: so where fewer pass below k, fewer pass
pub count_fewer : (f g : ℕ → Bool) (k m : ℕ) → k ≤ m → ((j : ℕ) → k ≤ j → g j ≡ f j) → count g k < count f k → count g m < count f m
unfolding count
count_fewer f g k zero h e l = let q : k ≡ 0 = omega arith in rw q at l
count_fewer f g k (suc m) h e l = go (dec_lt m k) (count_fewer f g k m)
  where
    go : Dec (m < k) → (k ≤ m → ((j : ℕ) → k ≤ j → g j ≡ f j) → count g k < count f k → count g m < count f m) → count g (suc m) < count f (suc m)
    go (yes s) r = let q : k ≡ suc m = omega arith in rw q at l
    go (no s) r = rw (e m (omega arith)) (at (f m))
      where
        at : (t : Bool) → pick t (suc (count g m)) (count g m) < pick t (suc (count f m)) (count f m)
        at true = omega (arith, r (omega arith) e l)
        at false = r (omega arith) e l

-- where nothing passes from m on, k is as good as m
pub count_out : (f : ℕ → Bool) (m k : ℕ) → m ≤ k → ((j : ℕ) → m ≤ j → f j ≡ false) → count f k ≡ count f m
unfolding count
count_out f m zero h e = let q : m ≡ 0 = omega arith in rw q
count_out f m (suc k) h e = go (dec_lt k m) (count_out f m k)
  where
    go : Dec (k < m) → (m ≤ k → ((j : ℕ) → m ≤ j → f j ≡ false) → count f k ≡ count f m) → count f (suc k) ≡ count f m
    go (yes s) r = let q : m ≡ suc k = omega arith in rw q
    go (no s) r = rw (e k (omega arith)) (r (omega arith) e)
