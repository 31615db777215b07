-- A support of 2, 3 or 4: one pass leaves the largest alone, at 1.0 or -1.0. One is kept. Of the 1, 2 or 3 others at most half have the colour σ, so that
-- at most one is left by the first halving; where one is, the second zeroes it, a lone colour being the majority. So the sum is the magnitude of the
-- one that is kept, and the quotient 1.0 with its sign.
use Prim.Native.Nat.{ℕ, zero, suc, ◌+◌, ◌≤◌, ◌<◌}
use mathlib.Core.Path.{◌≡◌, refl, sym, ap, ◌∙◌, subst}
use mathlib.Core.Bool.{Bool, true, false}
use mathlib.Core.List.{List}
use native.Mathlib.Decide.{ℕ_discrete, dec_lt}
use native.Mathlib.Omega.{arith}
use lib.IntN.{pos}
use borrow.Author.Tests.{ltb-true}
use lib.Dec.{T}
use lib.ListN.{length, get_or, drop, length-drop, get_or-eq_default}
use lib.Seq.{get_or-drop}
use lib.Ieee.{Float, nan, inf, fin, binary64, fits, mul, div, eq, ne}
use lib.Ieee.Scale.{finite}
use Rattle.seq.specs.Choice.{pick}
use Rattle.seq.specs.Sums.{plus_zero, at}
use Rattle.ieee.specs.Magnitude.{abs_of, signum_of}
use Rattle.ieee.specs.Flat.{is_zero}
use Rattle.ieee.specs.Units.{sign, mag}
use Rattle.ieee.proofs.Ops.{Finite, finite_number}
use Rattle.ieee.proofs.Signs.{nonzero, nought_is, nought-finite, nonzero_is, twice_is, twice-nonzero}
use Rattle.ieee.proofs.Norms.{lone_sum}
use Rattle.ieee.proofs.Division.{over_itself}
use Rattle.ieee.proofs.Normalised.{Normal}
use Rattle.colored.proofs.Colours.{Coloured, colours}
use Rattle.ieee.specs.Constants.{two}
use Rattle.weights.specs.Weights.{is_on, nonzeros, sound}
use Rattle.ranking.specs.Ranking.{ranked, kept_count, rest_of, omega_of}
use Rattle.halved.specs.Halve.{Halved}
use Rattle.doubling.specs.Doubling.{remaining, sigma_of}
use Rattle.passed.specs.Halving.{pass_of}
use Rattle.passed.specs.Alone.{Largest, Alone}
use Rattle.doubling.proofs.Once.{distinct_at}
use Rattle.passed.proofs.Rest.{length-ranked, ranked_on, length_rest, rest_on, rest_distinct}
use Rattle.passed.proofs.Fates.{Among, Fate, untouched, touched, colours_of, fate_once}
use Rattle.passed.proofs.Minority.{lone}
use Rattle.passed.proofs.Zeros.{zero_over_is, off_zero, plus_zero_off, sound-above, sound-finite}
use Rattle.passed.proofs.Fewer.{never, first, second, sum, long_first, long_second, length_pass, pass_at, off_stays, pass_off}
use Rattle.passed.proofs.Fewer.{whole-rest, l1_is, heaviest_stays, sum-sound}
use Rattle.passed.proofs.Holding.{has_among, has_those}
use Rattle.passed.proofs.Quarter.{half-left}
use Rattle.passed.proofs.Heaviest.{ranked_has, ranked_largest, one_largest}

-- one of 2, 3 or 4 is kept
one_kept : (s : ℕ) → 2 ≤ s → s ≤ 4 → kept_count s ≡ 1
one_kept s l h = omega arith

-- a finite value's sign, by the two names that it has
signum_is : (x : Float) → T (finite x) → fin (sign x) 1 (pos 0) ≡ signum_of x
signum_is nan h = absurd h
signum_is (inf s) h = absurd h
signum_is (fin s m e) h = refl

-- twice a weight that is not 0 is not 0
twice_on : (x : Float) → Finite binary64 x → ne x plus_zero ≡ true → ne (mul binary64 two x) plus_zero ≡ true
twice_on x p h = ap (ne (mul binary64 two x)) nought_is ∙ ap (λ t. nonzero (mul binary64 t x)) twice_is ∙ twice-nonzero p ∙ sym (ap (ne x) nought_is) ∙ h

-- every value of a list of finite ones is a double, and so is the NaN beyond it
held_any : (w : List Float) → ((j : ℕ) → j < length w → Finite binary64 (at w j)) → (j : ℕ) → T (fits binary64 (at w j))
held_any w h j = go (dec_lt j (length w))
  where
    go : Dec (j < length w) → T (fits binary64 (at w j))
    go (yes l) = (h j l).held
    go (no l) = subst (λ (v : Float). T (fits binary64 v)) (sym (get_or-eq_default w nan (omega arith))) (unfold fits in tt)

module _ (matrix : ℕ → ℕ → Float) (n : ℕ) (h : Halved) (some : 2 ≤ nonzeros h.w) (few : nonzeros h.w ≤ 4) where
  -- the weights after each halving, the rest, and the colours of the first halving
  abbrev once : List Float
  once = (first plus_zero matrix n h).w

  abbrev twice : List Float
  twice = (second plus_zero matrix n h).w

  abbrev others : List ℕ
  others = rest_of h.w

  abbrev x : List Float
  x = colours_of plus_zero matrix n (omega_of h.w) others h

  inside : (p : ℕ) → p < length others → get_or others p 0 < length once
  inside p l = rw (long_first plus_zero matrix n h) (rest_on h.w p l).below

  at-most-three : length others ≤ 3
  at-most-three = rw length_rest (omega arith)

  -- what the first halving makes of a weight of the rest
  first_is : (p : ℕ) → p < length others → at once (get_or others p 0) ≡ pick (eq (at x p) (sigma_of x)) (mul binary64 two (at h.w (get_or others p 0))) plus_zero
  first_is p l =
      go (rw (whole-rest plus_zero matrix n h some) at (fate_once plus_zero matrix n (omega_of h.w) others h (rest_distinct h.w)
      (λ q k. (rest_on h.w q k).below) (get_or others p 0)))
    where
      j : ℕ
      j = get_or others p 0

      go : Fate h.w others x (sigma_of x) (length others) j (at once j) → at once j ≡ pick (eq (at x p) (sigma_of x)) (mul binary64 two (at h.w j)) plus_zero
      go (untouched m e) = absurd (m p l refl)
      go (touched q k e v) = let same : q ≡ p = distinct_at (rest_distinct h.w) q p k l e in rw same at v

  -- at most one is left
  one_left : length (remaining once others) ≤ 1
  one_left =
      omega (
        arith,
        half-left plus_zero matrix n (omega_of h.w) others h (rest_distinct h.w) (λ p l. (rest_on h.w p l).below),
        ap length (whole-rest plus_zero matrix n h some),
        at-most-three,
      )

  module _ (ends : (j : ℕ) → j < length h.w → Finite binary64 (at h.w j)) where
    -- one that it does not leave is +0.0
    first_gone : (p : ℕ) → p < length others → is_on once (get_or others p 0) ≡ false → at once (get_or others p 0) ≡ plus_zero
    first_gone p l o = go (eq (at x p) (sigma_of x)) (first_is p l)
      where
        go : (t : Bool) → at once (get_or others p 0) ≡ pick t (mul binary64 two (at h.w (get_or others p 0))) plus_zero → at once (get_or others p 0) ≡ plus_zero
        go true e = let r = rest_on h.w p l in absurd
            (never (twice_on (at h.w (get_or others p 0)) (ends (get_or others p 0) r.below) r.on) (rw e at o))
        go false e = e

    -- after the second all of the rest are +0.0
    rest_gone : (p : ℕ) → p < length others → at twice (get_or others p 0) ≡ plus_zero
    rest_gone p l = go (fate_once plus_zero matrix n (omega_of h.w) others (first plus_zero matrix n h) (rest_distinct h.w) inside j)
      where
        j : ℕ
        j = get_or others p 0

        y : List Float
        y = colours_of plus_zero matrix n (omega_of h.w) others (first plus_zero matrix n h)

        left : (k : ℕ) → length (remaining once others) ≡ k → Coloured k y
        left k e = subst (λ i. Coloured i y) e (colours plus_zero _ (length (remaining once others)) (suc n) (first plus_zero matrix n h).rng)

        -- a lone one goes
        alone : (q : ℕ) → q < length (remaining once others) → eq (at y q) (sigma_of y) ≡ false
        alone q k = let here : q ≡ 0 = omega (arith, one_left) in rw here (lone (left 1 (omega (arith, one_left))))

        missed : ((q : ℕ) → q < length (remaining once others) → get_or (remaining once others) q 0 ≡ j → ⊥) → (t : Bool) → is_on once j ≡ t → t ≡ false
        missed m false e = refl
        missed m true e = let a = has_among (has_those (is_on once) others (length others) p l e) in absurd (m a.place a.under a.there)

        go : Fate once (remaining once others) y (sigma_of y) (length (remaining once others)) j (at twice j) → at twice j ≡ plus_zero
        go (untouched m e) = e ∙ first_gone p l (missed m (is_on once j) refl)
        go (touched q k e v) = v ∙ rw (alone q k)

    -- ---- what is left

    abbrev top : ℕ
    top = get_or (ranked h.w) 0 0

    top_stays : at twice top ≡ at h.w top
    top_stays = heaviest_stays plus_zero matrix n h

    -- every other weight that is not 0 is of the rest
    others_have : (j : ℕ) → j < length h.w → is_on h.w j ≡ true → (j ≡ top → ⊥) → Among others j
    unfolding rest_of
    others_have j l o d = let a = ranked_has h.w j l o in go a.place a.under a.there
      where
        one : kept_count (length (ranked h.w)) ≡ 1
        one = rw length-ranked (one_kept (nonzeros h.w) some few)

        go : (p : ℕ) → p < length (ranked h.w) → get_or (ranked h.w) p 0 ≡ j → Among (drop (kept_count (length (ranked h.w))) (ranked h.w)) j
        go zero k e = absurd (d (sym e))
        go (suc p) k e = rw one (record {
          place = p;
          under = rw (length-drop 1 (ranked h.w)) (omega arith);
          there = get_or-drop 1 (ranked h.w) p 0 ∙ ap (λ i. get_or (ranked h.w) i 0)
              (let s : 1 + p ≡ suc p = omega arith in s) ∙ e;
        })

    others_gone : (j : ℕ) → j < length h.w → is_on h.w j ≡ true → (j ≡ top → ⊥) → at twice j ≡ plus_zero
    others_gone j l o d = let a = others_have j l o d in rw a.there at (rest_gone a.place a.under)

    -- a weight that is not the largest is a zero, and a double
    record Nothing (v : Float) : Type 0 where
      is : T (is_zero v)
      held : Finite binary64 v

    nothing_else : (j : ℕ) → j < length h.w → (j ≡ top → ⊥) → Nothing (at twice j)
    nothing_else j l d = go (is_on h.w j) refl
      where
        go : (t : Bool) → is_on h.w j ≡ t → Nothing (at twice j)
        go true o = rw (others_gone j l o d ∙ nought_is) (record { is = tt; held = nought-finite binary64 false })
        go false o = rw (off_stays plus_zero matrix n h j o) (record { is = off_zero (at h.w j) o; held = ends j l })

    top-under : top < length h.w
    top-under = (ranked_on h.w 0 (rw length-ranked (omega arith))).below

    twice_ends : (j : ℕ) → j < length h.w → Finite binary64 (at twice j)
    twice_ends j l = go (ℕ_discrete j top)
      where
        go : Dec (j ≡ top) → Finite binary64 (at twice j)
        go (yes e) = rw (e, top_stays) (ends top top-under)
        go (no d) = (nothing_else j l d).held

    -- the sum is the magnitude of the one that is kept
    sum_is : sum plus_zero matrix n h ≡ abs_of (at h.w top)
    sum_is =
        l1_is twice (length h.w) (long_second plus_zero matrix n h)
        ∙ lone_sum binary64 (at twice) (length h.w) top top-under twice_ends (λ j l d. (nothing_else j l d).is)
        ∙ ap abs_of top_stays

  module _ (normal : Normal binary64 (length h.w) (at h.w)) (short : length h.w ≤ 256) where
    abbrev after : List Float
    after = (pass_of plus_zero matrix n h).w

    sound_here : sound (sum plus_zero matrix n h) ≡ true
    sound_here = sum-sound matrix n h some normal short

    top_on : is_on h.w (get_or (ranked h.w) 0 0) ≡ true
    top_on = (ranked_on h.w 0 (rw length-ranked (omega arith))).on

    top_one : at after (top normal.ends) ≡ signum_of (at h.w (top normal.ends))
    top_one =
        let t : ℕ = top normal.ends in
        let p : Finite binary64 (at h.w t) = normal.ends t (top-under normal.ends) in
        let m : 0 < mag binary64 (at h.w t) = ltb-true 0 (mag binary64 (at h.w t))
        (sym (nonzero_is (finite_number p)) ∙ sym (ap (ne (at h.w t)) nought_is) ∙ top_on) in
        pass_at plus_zero matrix n h t (top-under normal.ends)
        ∙ ap (λ v. div binary64 v (sum plus_zero matrix n h)) (top_stays normal.ends)
        ∙ ap (div binary64 (at h.w t)) (sum_is normal.ends)
        ∙ over_itself p m
        ∙ signum_is (at h.w t) p.ends

    other_none : (j : ℕ) → j < length h.w → is_on h.w j ≡ true → (j ≡ top normal.ends → ⊥) → at after j ≡ plus_zero
    other_none j l o d =
        pass_at plus_zero matrix n h j l
        ∙ ap (λ v. div binary64 v (sum plus_zero matrix n h)) (others_gone normal.ends j l o d ∙ nought_is)
        ∙ zero_over_is binary64 false (pos 0) (sum plus_zero matrix n h) (sound-above (sum plus_zero matrix n h) sound_here)
        (sound-finite (sum plus_zero matrix n h) sound_here)
        ∙ sym nought_is

    first_alone : Alone h.w after (top normal.ends)
    first_alone = record {
      long = length_pass plus_zero matrix n h;
      there = top_one;
      gone = other_none;
      off = λ j l d. go j l d (is_on h.w j) refl;
    }
      where
        go : (j : ℕ) → j < length h.w → (j ≡ top normal.ends → ⊥) → (t : Bool) → is_on h.w j ≡ t → is_on after j ≡ false
        go j l d true o = rw (other_none j l o d) plus_zero_off
        go j l d false o = pass_off plus_zero matrix n h sound_here j l (rw (off_stays plus_zero matrix n h j o) o)

    -- C8: there is a largest weight, and the pass leaves it alone
    pub some_largest : Largest h.w (get_or (ranked h.w) 0 0)
    some_largest = ranked_largest h.w (held_any h.w normal.ends) (omega arith)

    pub largest_alone : (k : ℕ) → Largest h.w k → Alone h.w after k
    largest_alone k p = rw (one_largest h.w (held_any h.w normal.ends) k (get_or (ranked h.w) 0 0) p some_largest) first_alone
