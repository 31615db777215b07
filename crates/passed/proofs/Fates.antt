-- What one halving does to each weight: the remaining of the rest are doubled or zeroed, each once, and every other weight stays.
use borrow.Author.Tests.{eqb-true}
use Prim.Native.Nat.{ℕ, zero, suc, ◌≤◌, ◌<◌}
use mathlib.Core.Path.{◌≡◌, refl, sym, ap, ◌∙◌}
use mathlib.Core.Bool.{Bool, true, false}
use mathlib.Core.List.{List}
use native.Mathlib.Decide.{ℕ_discrete}
use native.Mathlib.Omega.{arith}
use lib.Dec.{eqb}
use lib.ListN.{length, get_or, set}
use lib.Seq.{get_or-set_same, get_or-set_other}
use lib.Ieee.{Float, nan, binary64, mul, eq}
use Rattle.seq.specs.Choice.{pick}
use Rattle.seq.specs.Sums.{plus_zero, at}
use Rattle.ieee.specs.Constants.{two}
use Rattle.colored.specs.Coloring.{Colored, coloring_of}
use Rattle.weights.specs.Weights.{is_on}
use Rattle.halved.specs.Halve.{Halved, halved_by, halved_once, scaled_columns}
use Rattle.doubling.specs.Doubling.{halved_to, remaining, sigma_of}
use Rattle.doubling.proofs.Turns.{length_halved}
use Rattle.doubling.proofs.Once.{Distinct, Every, every_at, every_those, distinct_at, distinct_those}

-- v is what the first k turns of a halving of w make of weight j
pub data Fate (w : List Float) (r : List ℕ) (x : List Float) (sigma : Float) (k j : ℕ) (v : Float) : Type 0 where
  untouched : ((p : ℕ) → p < k → get_or r p 0 ≡ j → ⊥) → v ≡ at w j → Fate w r x sigma k j v
  touched : (p : ℕ) → p < k → get_or r p 0 ≡ j → v ≡ pick (eq (at x p) sigma) (mul binary64 two (at w j)) plus_zero → Fate w r x sigma k j v

module _ (w : List Float) (r : List ℕ) (x : List Float) (sigma : Float) (d : Distinct r) (inside : (p : ℕ) → p < length r → get_or r p 0 < length w) where
  pub fate : (k : ℕ) → k ≤ length r → (j : ℕ) → Fate w r x sigma k j (at (halved_to w r x sigma k) j)
  unfolding halved_to
  fate zero h j = untouched (λ p l. absurd (omega arith)) refl
  fate (suc k) h j = go (ℕ_discrete j (get_or r k 0)) (fate k (omega arith))
    where
      v : List Float
      v = halved_to w r x sigma k

      put : Float
      put = pick (eq (at x k) sigma) (mul binary64 two (at v (get_or r k 0))) plus_zero

      -- the index of this turn was not touched before
      was : Fate w r x sigma k (get_or r k 0) (at v (get_or r k 0)) → at v (get_or r k 0) ≡ at w (get_or r k 0)
      was (untouched n e) = e
      was (touched p l e q) = let same : p ≡ k = distinct_at d p k (omega arith) (omega arith) e in absurd (omega arith)

      other : (j ≡ get_or r k 0 → ⊥) → Fate w r x sigma k j (at v j) → Fate w r x sigma (suc k) j (at (set v (get_or r k 0) put) j)
      other n (untouched m e) = untouched (λ p l g. fresh p l g (ℕ_discrete p k)) (get_or-set_other v (get_or r k 0) j put nan n ∙ e)
        where
          fresh : (p : ℕ) → p < suc k → get_or r p 0 ≡ j → Dec (p ≡ k) → ⊥
          fresh p l g (yes s) = n (sym g ∙ ap (λ i. get_or r i 0) s)
          fresh p l g (no s) = m p (omega arith) g
      other n (touched p l g e) = touched p (omega arith) g (get_or-set_other v (get_or r k 0) j put nan n ∙ e)

      go : Dec (j ≡ get_or r k 0) → ((i : ℕ) → Fate w r x sigma k i (at v i)) → Fate w r x sigma (suc k) j (at (set v (get_or r k 0) put) j)
      go (yes e) ih =
          let stay : at v (get_or r k 0) ≡ at w (get_or r k 0) = was (ih (get_or r k 0)) in
          touched k (omega arith) (sym e)
          (rw e (get_or-set_same v (get_or r k 0) put nan (rw (length_halved w r x sigma k) (inside k h)) ∙ rw stay))
      go (no n) ih = other n (ih j)

-- j is one of the rest
pub record Among (rest : List ℕ) (j : ℕ) : Type 0 where
  pub place : ℕ
  pub under : place < length rest
  pub there : get_or rest place 0 ≡ j

-- v is what one halving of the rest makes of weight j
pub data Moved (w : List Float) (rest : List ℕ) (j : ℕ) (v : Float) : Type 0 where
  stays : v ≡ at w j → Moved w rest j v
  doubled : is_on w j ≡ true → Among rest j → v ≡ mul binary64 two (at w j) → Moved w rest j v
  zeroed : is_on w j ≡ true → Among rest j → v ≡ plus_zero → Moved w rest j v

module _ (z : Float) (matrix : ℕ → ℕ → Float) (n : ℕ) (ω : Float) (rest : List ℕ) (h : Halved) where
  -- the colours of the remaining rest
  abbrev pub colours_of : List Float
  colours_of = (coloring_of z (scaled_columns matrix n h.w ω (remaining h.w rest)) (length (remaining h.w rest)) (suc n) h.rng).x

  -- where none remain nothing is halved, as the definition of k turns has it for k = 0 too
  pub halved_is : (halved_once z matrix n ω rest h).w ≡ halved_to h.w (remaining h.w rest) colours_of (sigma_of colours_of) (length (remaining h.w rest))
  unfolding halved_once
  halved_is = go (eqb (length r) 0) refl
    where
      r : List ℕ
      r = remaining h.w rest

      c : Colored
      c = coloring_of z (scaled_columns matrix n h.w ω r) (length r) (suc n) h.rng

      after : Halved
      after = halved_by h r c

      nothing : (k : ℕ) → k ≡ 0 → h.w ≡ halved_to h.w r c.x (sigma_of c.x) k
      nothing k e = rw e (unfold halved_to in refl)

      go : (t : Bool) → eqb (length r) 0 ≡ t → (pick t h after).w ≡ halved_to h.w r c.x (sigma_of c.x) (length r)
      go true e = nothing (length r) (eqb-true (length r) 0 e)
      go false e = refl

  pub length-once : length (halved_once z matrix n ω rest h).w ≡ length h.w
  length-once = ap length halved_is ∙ length_halved h.w (remaining h.w rest) colours_of (sigma_of colours_of) (length (remaining h.w rest))

  module _ (d : Distinct rest) (inside : (p : ℕ) → p < length rest → get_or rest p 0 < length h.w) where
    -- the remaining are of the rest, and their weights are not 0
    those : Every (λ j. (is_on h.w j ≡ true) × Among rest j) (remaining h.w rest)
    those = every_those (is_on h.w) rest (length rest) (λ q l. record { place = q; under = l; there = refl })

    within : (p : ℕ) → p < length (remaining h.w rest) → get_or (remaining h.w rest) p 0 < length h.w
    within p l = let a = (every_at those p l).1 in rw (← a.there) (inside a.place a.under)

    pub fate_once : (j : ℕ) → Fate h.w (remaining h.w rest) colours_of (sigma_of colours_of) (length (remaining h.w rest)) j
        (at (halved_once z matrix n ω rest h).w j)
    fate_once j =
        rw halved_is (fate h.w (remaining h.w rest) colours_of (sigma_of colours_of)
        (distinct_those (is_on h.w) d (length rest) (omega arith)) within (length (remaining h.w rest)) (omega arith)
        j)

    pub moved-once : (j : ℕ) → Moved h.w rest j (at (halved_once z matrix n ω rest h).w j)
    moved-once j = go (fate_once j)
      where
        v : Float
        v = at (halved_once z matrix n ω rest h).w j

        way : (t : Bool) → is_on h.w j ≡ true → Among rest j → v ≡ pick t (mul binary64 two (at h.w j)) plus_zero → Moved h.w rest j v
        way true o a e = doubled o a e
        way false o a e = zeroed o a e

        go : Fate h.w (remaining h.w rest) colours_of (sigma_of colours_of) (length (remaining h.w rest)) j v → Moved h.w rest j v
        go (untouched m e) = stays e
        go (touched p l e q) = let a = every_at those p l in way (eq (at colours_of p) (sigma_of colours_of)) (rw e at a.0) (rw e at a.1) q
