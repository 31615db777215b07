-- The packed lists determine the weights but for the sign of a zero, as the weights determine them: two vectors of one length with the same packed lists
-- are alike at each place.
use Prim.Native.Nat.{ℕ, zero, suc, ◌+◌, ◌-◌, ◌<◌, ◌≤◌}
use mathlib.Core.Path.{◌≡◌, refl, sym, ap, ◌∙◌, subst}
use mathlib.Core.Bool.{Bool, true, false, not, true≢false}
use mathlib.Core.List.{List, [], ◌∷◌, ◌++◌}
use native.Mathlib.Decide.{dec_lt}
use native.Mathlib.Omega.{arith}
use lib.Dec.{T}
use lib.ListN.{length, get_or, take, length-append, get_or-append}
use lib.Seq.{take_at, get_or_at, get_or-append-add}
use lib.Ieee.{Float, nan, inf, fin, ne, eq, of_bits}
use Rattle.seq.specs.Choice.{pick}
use Rattle.seq.specs.Lists.{repeated}
use Rattle.seq.specs.Sums.{plus_zero, at}
use Rattle.seq.specs.Keep.{keep}
use Rattle.seq.proofs.Filling.{length-tab, get_or-tab}
use Rattle.seq.proofs.Keeping.{keep-good, keep_short}
use Rattle.ieee.specs.Flat.{flat, Alike, is_zero}
use Rattle.ieee.proofs.Signs.{nought_is}
use Rattle.ieee.proofs.Zeros.{nonzero_not_zero}
use Rattle.weights.specs.Weights.{is_on}
use Rattle.ranking.specs.Ranking.{support}
use Rattle.places.specs.Places.{chosen}
use Rattle.packing.specs.Packed.{packed_columns, packed_weights}

-- ---- each index that passes is kept somewhere

record Place (xs : List ℕ) (j : ℕ) : Type 0 where
  pub place : ℕ
  pub within : place < length xs
  pub is : get_or xs place 0 ≡ j

place-join : {xs : List ℕ} {j : ℕ} → Place xs j → (ys : List ℕ) → Place (xs ++ ys) j
place-join {xs} {j} p ys =
    record {
      place = p.place;
      within = omega (arith, length-append xs ys, p.within);
      is = get_or-append xs ys 0 p.place p.within ∙ p.is;
    }

place-last : (xs : List ℕ) (x : ℕ) → Place (xs ++ (x ∷ [])) x
place-last xs x =
    record { place = length xs; within = omega (arith, length-append xs (x ∷ [])); is = get_or_at xs x [] 0 (length xs) refl }

place_of : (f : ℕ → Bool) (k j : ℕ) → j < k → f j ≡ true → Place (keep f k) j
unfolding keep
place_of f zero j h e = absurd (omega arith)
place_of f (suc k) j h e = go (f k) refl (dec_lt j k) (place_of f k j)
  where
    go : (t : Bool) → f k ≡ t → Dec (j < k) → (j < k → f j ≡ true → Place (keep f k) j) → Place (pick t (keep f k ++ (k ∷ [])) (keep f k)) j
    go true q (yes l) r = place-join (r l e) (k ∷ [])
    go false q (yes l) r = r l e
    go true q (no l) r = let s : k ≡ j = omega arith in subst (λ (i : ℕ). Place (keep f k ++ (k ∷ [])) i) s (place-last (keep f k) k)
    go false q (no l) r = let s : j ≡ k = omega arith in absurd (true≢false (sym e ∙ ap f s ∙ q))

-- ---- the packed weights: not 0 at the places of the support, and +0.0 after them

module _ (w : List Float) where
  pub kept_at : (p : ℕ) → p < length (support w) → at (packed_weights w) p ≡ at w (get_or (support w) p 0)
  kept_at p h =
      get_or-append (chosen w (support w)) (repeated plus_zero (length w - length (support w))) nan p
      (rw (length-tab (λ p. at w (get_or (support w) p 0)) (length (support w))) h)
      ∙ get_or-tab (λ p. at w (get_or (support w) p 0)) (length (support w)) p nan h

  kept_on : (p : ℕ) → p < length (support w) → ne (at (packed_weights w) p) plus_zero ≡ true
  kept_on p h = ap (λ (x : Float). ne x plus_zero) (kept_at p h) ∙ (keep-good (is_on w) (length w) p h).0

  -- the first place after them, where there is one
  kept_off : length (support w) < length w → at (packed_weights w) (length (support w)) ≡ plus_zero
  kept_off h =
      let s : ℕ = length (support w) in
      let front : List Float = chosen w (support w) in
      let e : length front + 0 ≡ s = omega (arith, length-tab (λ p. at w (get_or (support w) p 0)) s) in
      ap (at (packed_weights w)) (sym e) ∙ get_or-append-add front (repeated plus_zero (length w - s)) 0 nan
      ∙ get_or-tab (λ i. plus_zero) (length w - s) 0 nan (omega arith)

zero_off : ne plus_zero plus_zero ≡ false
unfolding ne eq of_bits
zero_off = refl

-- no fewer are kept of one than of the other
no_fewer : (w v : List Float) → length w ≡ length v → packed_weights w ≡ packed_weights v → length (support w) < length (support v) → ⊥
no_fewer w v e vals l =
    let short : length (support v) ≤ length v = keep_short (is_on v) (length v) in
    let h : length (support w) < length w = omega arith in
    true≢false
    (sym (kept_on v (length (support w)) l) ∙ ap (λ (xs : List Float). ne (at xs (length (support w))) plus_zero) (sym vals)
    ∙ ap (λ (x : Float). ne x plus_zero) (kept_off w h) ∙ zero_off)

-- ---- zeros

off_zero : (x : Float) → ne x plus_zero ≡ false → T (is_zero x)
off_zero x h = go (is_zero x) (sym (nonzero_not_zero x) ∙ ap (λ (z : Float). ne x z) (sym nought_is) ∙ h)
  where
    go : (t : Bool) → not t ≡ false → T t
    go true e = tt
    go false e = absurd (true≢false e)

zeros_alike : (x y : Float) → T (is_zero x) → T (is_zero y) → Alike x y
zeros_alike (fin s zero e) (fin t zero d) p q = record { flatly = refl }
zeros_alike nan y p q = absurd p
zeros_alike (inf s) y p q = absurd p
zeros_alike (fin s (suc m) e) y p q = absurd p
zeros_alike (fin s zero e) nan p q = absurd q
zeros_alike (fin s zero e) (inf t) p q = absurd q
zeros_alike (fin s zero e) (fin t (suc n) d) p q = absurd q

-- ---- the weights

module _ (w v : List Float) (long : length w ≡ length v) (cols : packed_columns w ≡ packed_columns v) (vals : packed_weights w ≡ packed_weights v) where
  as_many : length (support w) ≡ length (support v)
  as_many =
      let a : length (support w) < length (support v) → ⊥ = no_fewer w v long vals in
      let b : length (support v) < length (support w) → ⊥ = no_fewer v w (sym long) (sym vals) in
      go (dec_lt (length (support w)) (length (support v))) (dec_lt (length (support v)) (length (support w))) a b
    where
      go : Dec (length (support w) < length (support v)) → Dec (length (support v) < length (support w))
          → (length (support w) < length (support v) → ⊥) → (length (support v) < length (support w) → ⊥) → length (support w) ≡ length (support v)
      go (yes l) m a b = absurd (a l)
      go (no l) (yes m) a b = absurd (b m)
      go (no l) (no m) a b = omega arith

  same_support : support w ≡ support v
  same_support =
      sym (take_at (support w) _ (length (support w)) refl) ∙ ap (take (length (support w))) cols
      ∙ take_at (support v) _ (length (support w)) (sym as_many)

  pub determined : (j : ℕ) → j < length w → Alike (at w j) (at v j)
  determined j h = go (is_on w j) refl (is_on v j) refl
    where
      go : (s : Bool) → is_on w j ≡ s → (t : Bool) → is_on v j ≡ t → Alike (at w j) (at v j)
      go true e t f =
          let p = place_of (is_on w) (length w) j h e in
          let l : p.place < length (support v) = omega (arith, as_many, p.within) in
          record {
            flatly = ap flat (ap (at w) (sym p.is) ∙ sym (kept_at w p.place p.within) ∙ ap (λ (xs : List Float). at xs p.place) vals
                ∙ kept_at v p.place l ∙ ap (at v) (ap (λ (xs : List ℕ). get_or xs p.place 0) (sym same_support) ∙ p.is));
          }
      go false e false f = zeros_alike (at w j) (at v j) (off_zero (at w j) e) (off_zero (at v j) f)
      go false e true f =
          let p = place_of (is_on v) (length v) j (rw long at h) f in
          let l : p.place < length (support w) = omega (arith, as_many, p.within) in
          absurd (true≢false (sym (keep-good (is_on w) (length w) p.place l).0
          ∙ ap (is_on w) (ap (λ (xs : List ℕ). get_or xs p.place 0) same_support ∙ p.is) ∙ e))
