-- The first of the ranking is the largest weight by magnitude, of equal ones the first, and there is one largest only: by heights and indices the order is
-- total.
use borrow.Author.Tests.{ltb-true, ltb-false, lt-ltb, le-ltb}
use Prim.Native.Nat.{ℕ, zero, suc, ◌≤◌, ◌<◌}
use mathlib.Core.Path.{◌≡◌, refl, sym, ◌∙◌}
use mathlib.Core.Bool.{Bool, true, false}
use mathlib.Core.List.{List, [], ◌∷◌}
use native.Mathlib.Decide.{ℕ_discrete}
use native.Mathlib.Omega.{arith}
use lib.Dec.{T, ltb}
use lib.ListN.{length, get_or}
use lib.Ieee.{Float, binary64, fits}
use Rattle.seq.specs.Choice.{pick}
use Rattle.seq.specs.Sums.{at}
use Rattle.seq.specs.Sort.{put_in, sorted}
use Rattle.ieee.proofs.ByMagnitude.{height, above_is}
use Rattle.weights.specs.Weights.{is_on, nonzeros}
use Rattle.ranking.specs.Ranking.{support, heavier, ranked}
use Rattle.passed.specs.Alone.{Largest}
use Rattle.doubling.proofs.Once.{Every, none, both, Fresh, every_at, every_put, every_map, every_sorted}
use Rattle.passed.proofs.Rest.{length-ranked, ranked_on, support-once}
use Rattle.passed.proofs.Fates.{Among}
use Rattle.passed.proofs.Holding.{has_among, has_keep, has_sorted}

-- ---- the order, on heights

-- of heights a and c at the indices x and y
abbrev comes : ℕ → ℕ → ℕ → ℕ → Bool
comes a c x y = pick (ltb c a) true (pick (ltb a c) false (ltb x y))

data Before (a c x y : ℕ) : Type 0 where
  higher : c < a → Before a c x y
  level : a ≡ c → x < y → Before a c x y

before_of : (a c x y : ℕ) → comes a c x y ≡ true → Before a c x y
before_of a c x y h = go (ltb c a) refl (ltb a c) refl h
  where
    go : (s : Bool) → ltb c a ≡ s → (t : Bool) → ltb a c ≡ t → pick s true (pick t false (ltb x y)) ≡ true → Before a c x y
    go true e t f h = higher (ltb-true c a e)
    go false e true f h = let z : ◌≡◌ {A = ℕ} 0 1 = cc in absurd (omega arith)
    go false e false f h = level (omega (arith, ltb-false c a e, ltb-false a c f)) (ltb-true x y h)

comes_of : {a c x y : ℕ} → Before a c x y → comes a c x y ≡ true
comes_of {a} {c} (higher h) = rw (lt-ltb c a h)
comes_of {a} {c} {x} {y} (level e h) = rw (le-ltb c a (omega arith), le-ltb a c (omega arith)) (lt-ltb x y h)

before-before : {a c e x y z : ℕ} → Before a c x y → Before c e y z → Before a e x z
before-before (higher h) (higher k) = higher (omega arith)
before-before (higher h) (level f k) = higher (omega arith)
before-before (level g h) (higher k) = higher (omega arith)
before-before (level g h) (level f k) = level (omega arith) (omega arith)

not_both : {a c x y : ℕ} → Before a c x y → Before c a y x → ⊥
not_both (higher h) (higher k) = omega arith
not_both (higher h) (level f k) = omega arith
not_both (level g h) (higher k) = omega arith
not_both (level g h) (level f k) = omega arith

or_else : (a c x y : ℕ) → (x ≡ y → ⊥) → comes a c x y ≡ false → Before c a y x
or_else a c x y n h = go (ltb c a) refl (ltb a c) refl h
  where
    later : (t : Bool) → ltb x y ≡ t → t ≡ false → y < x
    later true e f = let z : ◌≡◌ {A = ℕ} 0 1 = cc in absurd (omega arith)
    later false e f = omega (arith, ltb-false x y e)

    go : (s : Bool) → ltb c a ≡ s → (t : Bool) → ltb a c ≡ t → pick s true (pick t false (ltb x y)) ≡ false → Before c a y x
    go true e t f h = let z : ◌≡◌ {A = ℕ} 0 1 = cc in absurd (omega arith)
    go false e true f h = higher (ltb-true a c f)
    go false e false f h = level (omega (arith, ltb-false c a e, ltb-false a c f)) (later (ltb x y) refl h)

-- ---- the first of a sorted list

data Led (b : ℕ → ℕ → Bool) : List ℕ → Type 0 where
  empty : Led b []
  leads : {x : ℕ} {xs : List ℕ} → Every (λ y. b x y ≡ true) xs → Led b (x ∷ xs)

led_at : {b : ℕ → ℕ → Bool} {xs : List ℕ} → Led b xs → (p : ℕ) → suc p < length xs → b (get_or xs 0 0) (get_or xs (suc p) 0) ≡ true
led_at empty p l = absurd (omega arith)
led_at (leads a) p l = every_at a p (omega arith)

module _ (b : ℕ → ℕ → Bool) (through : (x y z : ℕ) → b x y ≡ true → b y z ≡ true → b x z ≡ true)
    (total : (x y : ℕ) → (x ≡ y → ⊥) → b x y ≡ false → b y x ≡ true) where
  led_put : (x : ℕ) {ys : List ℕ} → Fresh x ys → Led b ys → Led b (put_in b x ys)
  unfolding put_in
  led_put x none empty = leads none
  led_put x (both {y} {ys} k s) (leads a) = go (b x y) refl
    where
      go : (t : Bool) → b x y ≡ t → Led b (pick t (x ∷ y ∷ ys) (y ∷ put_in b x ys))
      go true e = leads (both e (every_map (λ v. through x y v e) a))
      go false e = leads (every_put b x (total x y k e) a)

  led_sorted : (f : ℕ → ℕ) (i : ℕ) → ((m n : ℕ) → m < n → n < i → f n ≡ f m → ⊥) → Led b (sorted b f i)
  unfolding sorted
  led_sorted f zero h = empty
  led_sorted f (suc i) h = led_put (f i) (every_sorted b f i (λ m l. h m i l (omega arith))) (led_sorted f i (λ m n l g. h m n l (omega arith)))

-- ---- the ranking

-- every weight that is not 0 is in it
pub ranked_has : (w : List Float) (j : ℕ) → j < length w → is_on w j ≡ true → Among (ranked w) j
unfolding ranked
ranked_has w j l o =
    let a = has_among (has_keep (is_on w) (length w) j l o) in
    rw a.there at (has_among (has_sorted (heavier w) (λ p. get_or (support w) p 0) (length (support w)) a.place a.under))

module _ (w : List Float) (doubles : (j : ℕ) → T (fits binary64 (at w j))) where
  abbrev tall : ℕ → ℕ
  tall j = height binary64 (at w j)

  heavier_is : (x y : ℕ) → heavier w x y ≡ comes (tall x) (tall y) x y
  unfolding heavier
  heavier_is x y = rw (above_is binary64 (at w x) (at w y) (doubles x) (doubles y), above_is binary64 (at w y) (at w x) (doubles y) (doubles x))

  heavier-before : (x y : ℕ) → heavier w x y ≡ true → Before (tall x) (tall y) x y
  heavier-before x y h = before_of (tall x) (tall y) x y (sym (heavier_is x y) ∙ h)

  before-heavier : (x y : ℕ) → Before (tall x) (tall y) x y → heavier w x y ≡ true
  before-heavier x y h = heavier_is x y ∙ comes_of h

  ranked_led : Led (heavier w) (ranked w)
  unfolding ranked
  ranked_led =
      led_sorted (heavier w) (λ x y z h k. before-heavier x z (before-before (heavier-before x y h) (heavier-before y z k)))
      (λ x y n h. before-heavier y x (or_else (tall x) (tall y) x y n (sym (heavier_is x y) ∙ h)))
      (λ p. get_or (support w) p 0) (length (support w)) (support-once w)

  -- the first of the ranking is the largest
  pub ranked_largest : 1 ≤ nonzeros w → Largest w (get_or (ranked w) 0 0)
  ranked_largest some =
      let top = ranked_on w 0 (rw length-ranked (omega arith)) in
      record { under = top.below; on = top.on; first = λ j l o n. go j n (ranked_has w j l o) }
    where
      go : (j : ℕ) → (j ≡ get_or (ranked w) 0 0 → ⊥) → Among (ranked w) j → heavier w (get_or (ranked w) 0 0) j ≡ true
      go j n a = at_place a.place a.under a.there
        where
          at_place : (p : ℕ) → p < length (ranked w) → get_or (ranked w) p 0 ≡ j → heavier w (get_or (ranked w) 0 0) j ≡ true
          at_place zero matrix e = absurd (n (sym e))
          at_place (suc p) matrix e = rw e at (led_at ranked_led p matrix)

  -- there is no other
  pub one_largest : (i k : ℕ) → Largest w i → Largest w k → i ≡ k
  one_largest i k p q = go (ℕ_discrete i k)
    where
      go : Dec (i ≡ k) → i ≡ k
      go (yes e) = e
      go (no n) = absurd (not_both (heavier-before i k (p.first k q.under q.on (λ e. n (sym e)))) (heavier-before k i (q.first i p.under p.on n)))
