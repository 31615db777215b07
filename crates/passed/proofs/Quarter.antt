-- A halving leaves at most half of the remaining rest, so that a pass leaves what it keeps and at most a quarter of the rest.
use Prim.Native.Nat.{ℕ, suc, ◌+◌, ◌-◌, ◌*◌, ◌/◌, ◌≤◌, ◌<◌}
use mathlib.Core.Path.{◌≡◌, refl, ap, ◌∙◌, subst}
use mathlib.Core.Bool.{Bool, true, false}
use mathlib.Core.List.{List, ◌++◌}
use native.Mathlib.Decide.{dec_lt}
use native.Mathlib.Omega.{arith}
use lib.Dec.{T}
use lib.ListN.{length, get_or, take, length-append, length-drop}
use lib.Seq.{get_or-take, get_or-drop, length-take-le}
use lib.Ieee.{Float, binary64, mul, eq}
use Rattle.seq.proofs.Choosing.{holds}
use Rattle.seq.specs.Choice.{pick}
use Rattle.seq.specs.Sums.{plus_zero, at}
use Rattle.seq.specs.Keep.{keep}
use Rattle.seq.proofs.Keeping.{keep-good, length-keep}
use Rattle.ieee.proofs.Counting.{count-le}
use Rattle.colored.proofs.Colours.{Coloured, colours}
use Rattle.ieee.specs.Constants.{two}
use Rattle.weights.specs.Weights.{is_on, nonzeros, sound}
use Rattle.ranking.specs.Ranking.{ranked, kept_count, rest_of, omega_of}
use Rattle.halved.specs.Halve.{Halved, halved_once}
use Rattle.doubling.specs.Doubling.{those_to, remaining, sigma_of}
use Rattle.passed.specs.Halving.{pass_of}
use Rattle.doubling.proofs.Once.{Every, Distinct, every_of, every_map, every_those, distinct_at, distinct_those, distinct_keep}
use Rattle.passed.proofs.Rest.{length-ranked, length_rest, rest_on, rest_distinct}
use Rattle.passed.proofs.Fates.{Among, Fate, untouched, touched, colours_of, fate_once, moved-once}
use Rattle.passed.proofs.Minority.{at-most-half}
use Rattle.passed.proofs.Zeros.{plus_zero_off}
use Rattle.passed.proofs.Fewer.{never, zero_stays, first, second, sum, long_first, long_second, length_pass, off_stays, pass_off, whole-rest}
use Rattle.passed.proofs.Holding.{Has, has_among, has_at, has_left, has_right, has_those, length_those, no_longer}
use Rattle.passed.proofs.Heaviest.{ranked_has}

module _ (z : Float) (matrix : ℕ → ℕ → Float) (n : ℕ) (ω : Float) (rest : List ℕ) (h : Halved) (d : Distinct rest)
    (inside : (p : ℕ) → p < length rest → get_or rest p 0 < length h.w) where
  -- those that remain, their colours, and the weights after the halving
  abbrev r : List ℕ
  r = remaining h.w rest

  abbrev x : List Float
  x = colours_of z matrix n ω rest h

  abbrev after : List Float
  after = (halved_once z matrix n ω rest h).w

  distinct_r : Distinct r
  distinct_r = distinct_those (is_on h.w) d (length rest) (omega arith)

  -- one that is left had the colour σ
  left_coloured : (q : ℕ) → q < length r → T (is_on after (get_or r q 0)) → T (eq (at x q) (sigma_of x))
  left_coloured q l o = go (fate_once z matrix n ω rest h d inside (get_or r q 0))
    where
      j : ℕ
      j = get_or r q 0

      way : (t : Bool) → at after j ≡ pick t (mul binary64 two (at h.w j)) plus_zero → T t
      way true e = tt
      way false e = absurd (never (holds (is_on after j) o) (rw e plus_zero_off))

      go : Fate h.w r x (sigma_of x) (length r) j (at after j) → T (eq (at x q) (sigma_of x))
      go (untouched m e) = absurd (m q l refl)
      go (touched p k e v) = let same : p ≡ q = distinct_at distinct_r p q k l e in way (eq (at x q) (sigma_of x)) (rw same at v)

  -- one that is left remained before
  left-before : (j : ℕ) → (is_on after j ≡ true) × Among rest j → Has j (those_to (is_on after) r (length r))
  left-before j (o, a) = go (is_on h.w j) refl
    where
      go : (t : Bool) → is_on h.w j ≡ t → Has j (those_to (is_on after) r (length r))
      go false e = absurd (never o (rw (zero_stays h.w rest j (at after j) e (moved-once z matrix n ω rest h d inside j)) e))
      go true e =
          let b = has_among (has_those (is_on h.w) rest (length rest) a.place a.under (rw a.there e)) in
          let s : get_or r b.place 0 ≡ j = b.there ∙ a.there in
          rw s at (has_those (is_on after) r (length r) b.place b.under (rw s o))

  -- at most half of those that remained are left
  pub half-left : 2 * length (remaining after rest) ≤ length r
  half-left =
      let fewer = no_longer (those_to (is_on after) r (length r)) (distinct_those (is_on after) d (length rest) (omega arith))
      (every_map left-before (every_those (is_on after) rest (length rest) (λ q l. record { place = q; under = l; there = refl }))) in
      let a = length_those (is_on after) r (length r) in
      let b = count-le (λ q. is_on after (get_or r q 0)) (λ q. eq (at x q) (sigma_of x)) (length r) left_coloured in
      let c : Coloured (length r) x = colours z _ (length r) (suc n) h.rng in
      omega (arith, fewer, a, b, at-most-half c)

module _ (z : Float) (matrix : ℕ → ℕ → Float) (n : ℕ) (h : Halved) where
  -- the weights before the division, the rest, and how many are kept
  abbrev twice : List Float
  twice = (second z matrix n h).w

  abbrev others : List ℕ
  others = rest_of h.w

  abbrev some-kept : ℕ
  some-kept = kept_count (length (ranked h.w))

  -- what is left is among the kept, or of the rest
  left_has : (j : ℕ) → j < length h.w → is_on twice j ≡ true → Has j (take some-kept (ranked h.w) ++ remaining twice others)
  unfolding rest_of
  left_has j l o = go (is_on h.w j) refl
    where
      place : (p : ℕ) → p < length (ranked h.w) → get_or (ranked h.w) p 0 ≡ j → Dec (p < some-kept) → Has j
          (take some-kept (ranked h.w) ++ remaining twice others)
      place p k e (yes s) =
          has_left (remaining twice others)
          (rw (get_or-take some-kept (ranked h.w) p 0 s ∙ e) at
          (has_at (take some-kept (ranked h.w)) p (rw (length-take-le some-kept (ranked h.w) (omega arith)) s)))
      place p k e (no s) =
          let q : ℕ = p - some-kept in
          let f : get_or others q 0 ≡ j = get_or-drop some-kept (ranked h.w) q 0 ∙ ap (λ i. get_or (ranked h.w) i 0)
          (let g : some-kept + q ≡ p = omega arith in g) ∙ e in
          has_right (take some-kept (ranked h.w)) (rw f at (has_those (is_on twice) others (length others) q
          (rw (length-drop some-kept (ranked h.w)) (omega arith)) (rw f o)))

      go : (t : Bool) → is_on h.w j ≡ t → Has j (take some-kept (ranked h.w) ++ remaining twice others)
      go false e = absurd (never o (rw (off_stays z matrix n h j e) e))
      go true e = let a = ranked_has h.w j l e in place a.place a.under a.there (dec_lt a.place some-kept)

  kept_and_left : 2 ≤ nonzeros h.w → nonzeros twice ≤ kept_count (nonzeros h.w) + length (remaining twice others)
  kept_and_left some =
      let each : Every (λ j. Has j (take some-kept (ranked h.w) ++ remaining twice others)) (keep (is_on twice) (length twice)) =
      every_of (keep (is_on twice) (length twice)) (λ p l. let g = keep-good (is_on twice) (length twice) p l in left_has
      (get_or (keep (is_on twice) (length twice)) p 0)
      (subst (λ (k : ℕ). get_or (keep (is_on twice) (length twice)) p 0 < k) (long_second z matrix n h) g.1) g.0) in
      let a = no_longer (take some-kept (ranked h.w) ++ remaining twice others) (distinct_keep (is_on twice) (length twice)) each in
      let b = length-keep (is_on twice) (length twice) in
      let c = length-append (take some-kept (ranked h.w)) (remaining twice others) in
      let e : length (ranked h.w) ≡ nonzeros h.w = length-ranked h.w in
      let k : length (take some-kept (ranked h.w)) ≡ some-kept = length-take-le some-kept (ranked h.w) (omega arith) in
      let f : some-kept ≡ kept_count (nonzeros h.w) = ap kept_count e in
      omega (arith, a, b, c, k, f)

  -- what a pass leaves: what it keeps, and at most a quarter of the rest
  pub pass_at_most : 2 ≤ nonzeros h.w → sound (sum z matrix n h) ≡ true → nonzeros (pass_of z matrix n h).w
      ≤ kept_count (nonzeros h.w) + (nonzeros h.w - kept_count (nonzeros h.w)) / 2 / 2
  pass_at_most some good =
      let a = half-left z matrix n (omega_of h.w) others h (rest_distinct h.w) (λ p l. (rest_on h.w p l).below) in
      let b = half-left z matrix n (omega_of h.w) others (first z matrix n h) (rest_distinct h.w)
      (λ p l. rw (long_first z matrix n h) (rest_on h.w p l).below) in
      let c : length (remaining h.w others) ≡ length others = ap length (whole-rest z matrix n h some) in
      let d : length others ≡ nonzeros h.w - kept_count (nonzeros h.w) = length_rest h.w in
      let e : nonzeros (pass_of z matrix n h).w ≤ nonzeros twice = rw (length_pass z matrix n h, long_second z matrix n h)
      (count-le (is_on (pass_of z matrix n h).w) (is_on twice) (length h.w) (λ j l t. stays j l t (is_on twice j) refl)) in
      omega (arith, a, b, c, d, e, kept_and_left some)
    where
      stays : (j : ℕ) → j < length h.w → T (is_on (pass_of z matrix n h).w j) → (t : Bool) → is_on twice j ≡ t → T t
      stays j l o true e = tt
      stays j l o false e = absurd (subst T (pass_off z matrix n h good j l e) o)

  -- so at most half of all, rounded down
  pub pass_half : 2 ≤ nonzeros h.w → sound (sum z matrix n h) ≡ true → 2 * nonzeros (pass_of z matrix n h).w ≤ nonzeros h.w
  pass_half some good =
      let a = pass_at_most some good in
      omega arith
