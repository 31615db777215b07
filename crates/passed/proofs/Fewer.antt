-- A pass: every weight that is not 0 after it was not before, and there are strictly fewer. Of the rest, which the first halving colours whole,
-- one has the colour that at most half do not have, and is zeroed; the second halving and the division leave a zero a zero. On normalised weights
-- it is a step of `Rattle.ieee.proofs.Pass`: the sum is sound, signs are kept, and the weights are normalised again.
use Prim.Native.Nat.{ℕ, suc, ◌≤◌, ◌<◌}
use mathlib.Core.Path.{◌≡◌, refl, sym, ap, ◌∙◌, subst}
use mathlib.Core.Bool.{Bool, true, false, not}
use mathlib.Core.List.{List}
use native.Mathlib.Omega.{arith}
use lib.Dec.{T}
use lib.ListN.{length, get_or}
use lib.Seq.{take_all}
use lib.Ieee.{Float, nan, binary64, mul, div, eq, ne}
use Rattle.seq.specs.Choice.{pick}
use Rattle.seq.specs.Sums.{plus_zero, at}
use Rattle.seq.proofs.Choosing.{holds}
use Rattle.seq.proofs.Filling.{length-tab, get_or-tab}
use Rattle.ieee.specs.Magnitude.{abs_of}
use Rattle.ieee.specs.Pass.{Turned, kept, once, again, gone}
use Rattle.ieee.proofs.Signs.{SameSign, nonzero, nought_is, twice_is}
use Rattle.ieee.proofs.Counting.{count-lt}
use Rattle.ieee.proofs.Normalised.{Normal}
use Rattle.ieee.proofs.Ops.{Finite, Positive}
use Rattle.ieee.proofs.Norms.{l1}
use Rattle.ieee.proofs.Alikes.{sum-up_is}
use Rattle.ieee.proofs.Tests.{tests_of_positive}
use Rattle.ieee.proofs.Pass.{Step, pass_ends, step_sum, step_normal, pass_signs}
use Rattle.ieee.specs.Constants.{two}
use Rattle.colored.proofs.Colours.{colours}
use Rattle.weights.specs.Weights.{is_on, nonzeros, l1_of, sound, over_at, normalized}
use Rattle.ranking.specs.Ranking.{ranked, rest_of, omega_of}
use Rattle.halved.specs.Halve.{Halved, halved_once}
use Rattle.doubling.specs.Doubling.{remaining, sigma_of}
use Rattle.passed.specs.Halving.{halved_twice, pass_of}
use Rattle.doubling.proofs.Once.{those_all, distinct_at, distinct_those}
use Rattle.passed.proofs.Rest.{On, length-ranked, ranked_on, rest_some, rest_on, rest_distinct, first-kept}
use Rattle.passed.proofs.Fates.{Among, Fate, untouched, touched, Moved, stays, doubled, zeroed, colours_of, length-once, fate_once, moved-once}
use Rattle.passed.proofs.Minority.{Fails, minority}
use Rattle.passed.proofs.Zeros.{off_over, plus_zero_off, positive-sound}

-- no test is true and false
pub never : {t : Bool} → t ≡ true → t ≡ false → ⊥
never h k = subst T (sym h ∙ k) tt

-- a zero stays as it is
pub zero_stays : (w : List Float) (rest : List ℕ) (j : ℕ) (v : Float) → is_on w j ≡ false → Moved w rest j v → v ≡ at w j
zero_stays w rest j v o (stays e) = e
zero_stays w rest j v o (doubled t a e) = absurd (never t o)
zero_stays w rest j v o (zeroed t a e) = absurd (never t o)

module _ (z : Float) (matrix : ℕ → ℕ → Float) (n : ℕ) (h : Halved) where
  abbrev pub first : Halved
  first = halved_once z matrix n (omega_of h.w) (rest_of h.w) h

  abbrev pub second : Halved
  second = halved_once z matrix n (omega_of h.w) (rest_of h.w) first

  abbrev pub sum : Float
  sum = l1_of z second.w

  pub long_first : length first.w ≡ length h.w
  long_first = length-once z matrix n (omega_of h.w) (rest_of h.w) h

  pub long_second : length second.w ≡ length h.w
  long_second = length-once z matrix n (omega_of h.w) (rest_of h.w) first ∙ long_first

  -- as many weights as before
  pub length_pass : length (pass_of z matrix n h).w ≡ length h.w
  unfolding pass_of halved_twice normalized
  length_pass = length-tab (over_at sum second.w) (length second.w) ∙ long_second

  pub pass_at : (j : ℕ) → j < length h.w → at (pass_of z matrix n h).w j ≡ div binary64 (at second.w j) sum
  unfolding pass_of halved_twice normalized
  pass_at j l = get_or-tab (over_at sum second.w) (length second.w) j nan (rw long_second l)

  moved-first : (j : ℕ) → Moved h.w (rest_of h.w) j (at first.w j)
  moved-first = moved-once z matrix n (omega_of h.w) (rest_of h.w) h (rest_distinct h.w) (λ p l. (rest_on h.w p l).below)

  moved-second : (j : ℕ) → Moved first.w (rest_of h.w) j (at second.w j)
  moved-second = moved-once z matrix n (omega_of h.w) (rest_of h.w) first (rest_distinct h.w) (λ p l. rw long_first (rest_on h.w p l).below)

  after_zero : (j : ℕ) → is_on first.w j ≡ false → at second.w j ≡ at first.w j
  after_zero j o = zero_stays first.w (rest_of h.w) j (at second.w j) o (moved-second j)

  pub off_stays : (j : ℕ) → is_on h.w j ≡ false → at second.w j ≡ at h.w j
  off_stays j o =
      let e : at first.w j ≡ at h.w j = zero_stays h.w (rest_of h.w) j (at first.w j) o (moved-first j) in
      after_zero j (rw e o) ∙ e

  module _ (good : sound sum ≡ true) where
    -- what is zero before the division is zero after it
    pub pass_off : (j : ℕ) → j < length h.w → is_on second.w j ≡ false → is_on (pass_of z matrix n h).w j ≡ false
    pass_off j l o = rw (pass_at j l) (off_over (at second.w j) sum o good)

    -- a weight that is not 0 after the pass was not before
    pub pass_on : (j : ℕ) → j < length h.w → is_on (pass_of z matrix n h).w j ≡ true → is_on h.w j ≡ true
    pass_on j l o = go (is_on h.w j) refl
      where
        go : (t : Bool) → is_on h.w j ≡ t → t ≡ true
        go true e = refl
        go false e = absurd (never o (pass_off j l (rw (off_stays j e) e)))

  module _ (some : 2 ≤ nonzeros h.w) where
    -- the first halving has the whole rest before it
    pub whole-rest : remaining h.w (rest_of h.w) ≡ rest_of h.w
    whole-rest =
        those_all (is_on h.w) (rest_of h.w) (length (rest_of h.w)) (omega arith) (λ q l. (rest_on h.w q l).on)
        ∙ take_all (length (rest_of h.w)) (rest_of h.w) (omega arith)

    -- one of them is zeroed
    record Gone : Type 0 where
      index : ℕ
      was : On h.w index
      is : at first.w index ≡ plus_zero

    one_gone : Gone
    one_gone = go (fate_once z matrix n (omega_of h.w) (rest_of h.w) h (rest_distinct h.w) (λ p l. (rest_on h.w p l).below) (get_or r lost.place 0))
      where
        r : List ℕ
        r = remaining h.w (rest_of h.w)

        x : List Float
        x = colours_of z matrix n (omega_of h.w) (rest_of h.w) h

        lost : Fails (λ p. eq (at x p) (sigma_of x)) (length r)
        lost = minority (colours z _ (length r) (suc n) h.rng) (rw whole-rest (rest_some h.w some))

        j : ℕ
        j = get_or r lost.place 0

        of_rest : (s : List ℕ) → s ≡ rest_of h.w → (p : ℕ) → p < length s → On h.w (get_or s p 0)
        of_rest s e p l = rw e (rest_on h.w p (rw e at l))

        put : (q : ℕ) → q ≡ lost.place → pick (eq (at x q) (sigma_of x)) (mul binary64 two (at h.w j)) plus_zero ≡ plus_zero
        put q e = rw (e, lost.not_there)

        go : Fate h.w r x (sigma_of x) (length r) j (at first.w j) → Gone
        go (untouched m e) = absurd (m lost.place lost.under refl)
        go (touched q l e v) =
            let same : q ≡ lost.place = distinct_at
            (distinct_those (is_on h.w) (rest_distinct h.w) (length (rest_of h.w)) (omega arith)) q lost.place l
            lost.under e in
            record { index = j; was = of_rest r whole-rest lost.place lost.under; is = v ∙ put q same }

    -- a pass leaves strictly fewer
    pub pass_fewer : sound sum ≡ true → nonzeros (pass_of z matrix n h).w < nonzeros h.w
    pass_fewer good =
        let g = one_gone in
        let off : is_on first.w g.index ≡ false = rw g.is plus_zero_off in
        let off_too : is_on second.w g.index ≡ false = rw (after_zero g.index off) off in
        let off_after : is_on (pass_of z matrix n h).w g.index ≡ false = pass_off good g.index g.was.below off_too in
        rw length_pass
        (count-lt (is_on (pass_of z matrix n h).w) (is_on h.w) (length h.w) g.index
        (λ j l t. subst T (sym (pass_on good j l (holds (is_on (pass_of z matrix n h).w j) t))) tt)
        g.was.below
        (subst (λ (b : Bool). T (not b)) (sym off_after) tt)
        (subst T (sym g.was.on) tt))

-- ---- normalised weights

-- what two halvings make of a weight
both-moves : (w v : List Float) (rest : List ℕ) (j : ℕ) (y : Float) → Moved w rest j (at v j) → Moved v rest j y → Turned binary64 (at w j) y
both-moves w v rest j y (stays e) (stays g) = subst (Turned binary64 (at w j)) (sym (g ∙ e)) kept
both-moves w v rest j y (stays e) (doubled o a g) = subst (Turned binary64 (at w j))
    (sym (g ∙ ap (mul binary64 two) e ∙ ap (λ t. mul binary64 t (at w j)) twice_is)) once
both-moves w v rest j y (doubled p b e) (stays g) = subst (Turned binary64 (at w j)) (sym (g ∙ e ∙ ap (λ t. mul binary64 t (at w j)) twice_is)) once
both-moves w v rest j y (doubled p b e) (doubled o a g) =
    subst (Turned binary64 (at w j)) (sym (g ∙ ap (mul binary64 two) e ∙ ap (λ t. mul binary64 t (mul binary64 t (at w j))) twice_is)) again
both-moves w v rest j y (zeroed p b e) (stays g) = subst (Turned binary64 (at w j)) (sym (g ∙ e ∙ nought_is)) gone
both-moves w v rest j y (zeroed p b e) (doubled o a g) = absurd (never o (rw e plus_zero_off))
both-moves w v rest j y m (zeroed o a g) = subst (Turned binary64 (at w j)) (sym (g ∙ nought_is)) gone

pub l1_is : (w : List Float) (k : ℕ) → length w ≡ k → l1_of plus_zero w ≡ l1 binary64 (at w) k
unfolding l1_of
l1_is w k e = rw e (sum-up_is (λ j. abs_of (at w j)) k)

-- what is none of the rest stays
not_among : (w : List Float) (rest : List ℕ) (j : ℕ) (v : Float) → (Among rest j → ⊥) → Moved w rest j v → v ≡ at w j
not_among w rest j v n (stays e) = e
not_among w rest j v n (doubled o a e) = absurd (n a)
not_among w rest j v n (zeroed o a e) = absurd (n a)

-- the heaviest of all is none of the rest, and stays
module _ (z : Float) (matrix : ℕ → ℕ → Float) (n : ℕ) (h : Halved) where
  pub heaviest_stays : at (second z matrix n h).w (get_or (ranked h.w) 0 0) ≡ at h.w (get_or (ranked h.w) 0 0)
  heaviest_stays =
      not_among (first z matrix n h).w (rest_of h.w) top (at (second z matrix n h).w top) apart (moved-second z matrix n h top)
      ∙ not_among h.w (rest_of h.w) top (at (first z matrix n h).w top) apart (moved-first z matrix n h top)
    where
      top : ℕ
      top = get_or (ranked h.w) 0 0

      apart : Among (rest_of h.w) top → ⊥
      apart a = first-kept h.w a.place a.under a.there

module _ (matrix : ℕ → ℕ → Float) (n : ℕ) (h : Halved) (some : 2 ≤ nonzeros h.w) where
  abbrev after : List Float
  after = (pass_of plus_zero matrix n h).w

  -- a pass is a step: the heaviest weight is kept, every other is kept, doubled once or twice, or zeroed
  pub pass_step : Step binary64 (length h.w) (at h.w) (at after)
  pass_step =
      record {
        turned = at (second plus_zero matrix n h).w;
        each = λ j l. both-moves h.w (first plus_zero matrix n h).w (rest_of h.w) j (at (second plus_zero matrix n h).w j)
            (moved-first plus_zero matrix n h j) (moved-second plus_zero matrix n h j);
        keeps = top;
        inside = top_on.below;
        kept_as = heaviest_stays plus_zero matrix n h;
        support = subst T (sym (ap (ne (at h.w top)) (sym nought_is) ∙ top_on.on)) tt;
        divided = λ j l. pass_at plus_zero matrix n h j l ∙ ap (div binary64 (at (second plus_zero matrix n h).w j)) sum_is;
      }
    where
      top : ℕ
      top = get_or (ranked h.w) 0 0

      top_on : On h.w top
      top_on = ranked_on h.w 0 (rw length-ranked (omega arith))

      sum_is : l1_of plus_zero (second plus_zero matrix n h).w ≡ l1 binary64 (at (second plus_zero matrix n h).w) (length h.w)
      sum_is = l1_is (second plus_zero matrix n h).w (length h.w) (long_second plus_zero matrix n h)

  module _ (normal : Normal binary64 (length h.w) (at h.w)) (few : length h.w ≤ 256) where
    -- before the division every weight is finite
    pub second_ends : (j : ℕ) → j < length h.w → Finite binary64 (at (second plus_zero matrix n h).w j)
    unfolding pass_step
    second_ends = pass_ends binary64 (length h.w) (at h.w) pass_step.turned normal pass_step.each

    pub sum-positive : Positive binary64 (l1_of plus_zero (second plus_zero matrix n h).w)
    unfolding pass_step
    sum-positive = rw (l1_is (second plus_zero matrix n h).w (length h.w) (long_second plus_zero matrix n h)) (step_sum normal few pass_step)

    -- what a pass divides by is above 0 and finite: entries are at most 1, two doublings make at most 4 of one, and one that is kept stays nonzero
    pub sum-sound : sound (sum plus_zero matrix n h) ≡ true
    sum-sound = positive-sound (sum plus_zero matrix n h) (tests_of_positive sum-positive) sum-positive.fin.ends

    -- the weights are normalised again
    pub pass_normal : Normal binary64 (length h.w) (at after)
    pass_normal = step_normal normal few pass_step

    -- each has the sign that it had
    pub pass_same_sign : (j : ℕ) → j < length h.w → is_on after j ≡ true → SameSign (at h.w j) (at after j)
    pass_same_sign j l o =
        let e = pass_step.divided j l in
        let t : T (nonzero (at after j)) = subst T (sym (ap (ne (at after j)) (sym nought_is) ∙ o)) tt in
        rw e (pass_signs binary64 (length h.w) (at h.w) pass_step.turned normal pass_step.each
        (step_sum normal few pass_step) j l (subst (λ v. T (nonzero v)) e t))
