-- The colourings of a pass: each weight of the rest is at most twice the heaviest of them, ω, so that each scaled entry is at most 2.
use mathlib.Core.Path.{◌≡◌, refl, sym, ap, ◌∙◌, subst}
use Prim.Native.Nat.{ℕ, zero, suc, ◌*◌, ◌≤◌, ◌<◌, zero-le}
use native.Mathlib.Nat.{le_refl, le_trans, le_of_eq, le_of_lt, lt_of_le_of_lt, mul-le-mul_left}
use native.Mathlib.Omega.{arith}
use borrow.Author.Tests.{ltb-true, ltb-false}
use mathlib.Core.Bool.{Bool, true, false}
use mathlib.Core.List.{List, [], ◌∷◌}
use lib.IntN.{pos}
use lib.Dec.{T, ltb, ltb→lt, lit≤, lit<}
use lib.ListN.{length, get_or, drop}
use lib.Ieee.{Float, nan, inf, fin, binary64, of_bits, mul, div, fits}
use lib.Ieee.Fits.{div-fits}
use lib.Ieee.Scale.{finite, grid, overflow}
use Rattle.seq.specs.Choice.{pick}
use Rattle.seq.specs.Sums.{plus_zero, at}
use Rattle.seq.specs.Sort.{put_in, sorted}
use Rattle.ieee.specs.Units.{mag}
use Rattle.ieee.specs.Magnitude.{abs_of}
use Rattle.ieee.proofs.Grid.{grid-le, grid-exact}
use Rattle.ieee.proofs.Ops.{Finite, finite_number, inside_finite, Positive, div-units, under_cap}
use Rattle.ieee.proofs.Signs.{nonzero_is, nought-finite, twice-finite, twice-exact}
use Rattle.ieee.proofs.Sums.{abs_size, abs_mag, abs_finite}
use Rattle.ieee.proofs.Products.{mul-at-most, mul-finite}
use Rattle.ieee.proofs.ByMagnitude.{height, above_is}
use Rattle.ieee.proofs.Normalised.{Normal}
use Rattle.places.proofs.Places.{off}
use Rattle.ieee.specs.Constants.{two}
use Rattle.weights.specs.Weights.{is_on}
use Rattle.ranking.specs.Ranking.{support, heavier, ranked, kept_count, rest_of, omega_of}
use Rattle.doubling.specs.Doubling.{remaining, scale_at}
use Rattle.doubling.proofs.Once.{Every, none, both, every_at, every_put, every_map, every_those}
use Rattle.halved.specs.Halve.{Halved, halved_once, scaled_columns}
use Rattle.passed.proofs.Rest.{rest_on, rest_distinct}
use Rattle.passed.proofs.Fates.{Among, Moved, stays, doubled, zeroed, moved-once}
use Rattle.bounded.proofs.Within.{Within, K}
use Rattle.progress.specs.Original.{Generator}
use Rattle.progress.proofs.Fairness.{Bounded}

-- ---- the ranking falls in magnitude

-- each is at least as heavy as all that follow it
data Falling (R : ℕ → ℕ → Type 0) : List ℕ → Type 0 where
  empty : Falling R []
  leads : {y : ℕ} {ys : List ℕ} → Every (R y) ys → Falling R ys → Falling R (y ∷ ys)

module _ (R : ℕ → ℕ → Type 0) (b : ℕ → ℕ → Bool) (through : (x y z : ℕ) → R x y → R y z → R x z) (first : (x y : ℕ) → b x y ≡ true → R x y)
    (later : (x y : ℕ) → b x y ≡ false → R y x) where
  falling_put : (x : ℕ) {ys : List ℕ} → Falling R ys → Falling R (put_in b x ys)
  unfolding put_in
  falling_put x empty = leads none empty
  falling_put x (leads {y} {ys} a r) = go (b x y) refl (falling_put x r)
    where
      go : (t : Bool) → b x y ≡ t → Falling R (put_in b x ys) → Falling R (pick t (x ∷ y ∷ ys) (y ∷ put_in b x ys))
      go true e k = leads (both (first x y e) (every_map (λ v. through x y v (first x y e)) a)) (leads a r)
      go false e k = leads (every_put b x (later x y e) a) k

  falling_sorted : (f : ℕ → ℕ) (i : ℕ) → Falling R (sorted b f i)
  unfolding sorted
  falling_sorted f zero = empty
  falling_sorted f (suc i) = falling_put (f i) (falling_sorted f i)

falling_drop : {R : ℕ → ℕ → Type 0} (k : ℕ) {xs : List ℕ} → Falling R xs → Falling R (drop k xs)
falling_drop zero r = r
falling_drop (suc k) empty = empty
falling_drop (suc k) (leads a r) = falling_drop k r

falling_at : {R : ℕ → ℕ → Type 0} {xs : List ℕ} → ((x : ℕ) → R x x) → Falling R xs → (p : ℕ) → p < length xs → R (get_or xs 0 0) (get_or xs p 0)
falling_at same empty p h = absurd (let z : ⊥ = omega arith in z)
falling_at same (leads {y} a r) zero h = same y
falling_at same (leads a r) (suc p) h = every_at a p (omega arith)

module _ (w : List Float) (doubles : (j : ℕ) → T (fits binary64 (at w j))) where
  abbrev tall : ℕ → ℕ
  tall j = height binary64 (at w j)

  -- what comes first is no lighter, and what does not is no heavier
  first_of : (a c x y : ℕ) → pick (ltb c a) true (pick (ltb a c) false (ltb x y)) ≡ true → c ≤ a
  first_of a c x y e = go (ltb c a) refl (ltb a c) refl e
    where
      go : (s : Bool) → ltb c a ≡ s → (r : Bool) → ltb a c ≡ r → pick s true (pick r false (ltb x y)) ≡ true → c ≤ a
      go true f r g e = le_of_lt (ltb-true c a f)
      go false f true g e = absurd (off (sym e))
      go false f false g e = ltb-false a c g

  later_of : (a c x y : ℕ) → pick (ltb c a) true (pick (ltb a c) false (ltb x y)) ≡ false → a ≤ c
  later_of a c x y e = go (ltb c a) refl e
    where
      go : (s : Bool) → ltb c a ≡ s → pick s true (pick (ltb a c) false (ltb x y)) ≡ false → a ≤ c
      go true f e = absurd (off e)
      go false f e = ltb-false c a f

  heavier_is : (x y : ℕ) → heavier w x y ≡ pick (ltb (tall y) (tall x)) true (pick (ltb (tall x) (tall y)) false (ltb x y))
  unfolding heavier
  heavier_is x y = rw (above_is binary64 (at w x) (at w y) (doubles x) (doubles y), above_is binary64 (at w y) (at w x) (doubles y) (doubles x))

  rest_falling : Falling (λ x y. tall y ≤ tall x) (rest_of w)
  unfolding rest_of ranked
  rest_falling =
      falling_drop (kept_count (length (ranked w)))
      (falling_sorted (λ x y. tall y ≤ tall x) (heavier w) (λ x y z h k. le_trans k h)
      (λ x y e. first_of (tall x) (tall y) x y (sym (heavier_is x y) ∙ e))
      (λ x y e. later_of (tall x) (tall y) x y (sym (heavier_is x y) ∙ e))
      (λ p. get_or (support w) p 0) (length (support w)))

  rest-tall : (p : ℕ) → p < length (rest_of w) → tall (get_or (rest_of w) p 0) ≤ tall (get_or (rest_of w) 0 0)
  rest-tall p h = falling_at (λ x. le_refl (tall x)) rest_falling p h

-- ---- the weights of the rest, in both halvings

-- each weight of the rest is finite and at most twice ω
pub record Weighed (w : List Float) (ω : Float) (rest : List ℕ) : Type 0 where
  pub each : (j : ℕ) → Among rest j → Within binary64 (2 * mag binary64 ω) (at w j)

finite-height : (x : Float) → T (finite x) → height binary64 x ≡ mag binary64 x
finite-height nan t = absurd t
finite-height (inf s) t = absurd t
finite-height (fin s m e) t = refl

twice_most : (a b : ℕ) → a ≤ b → a ≤ 2 * b
twice_most a b h = omega arith

no_less : (p n : ℕ) → p < n → 0 < n
no_less p n h = omega arith

double_fits : (a k o : ℕ) → a ≤ k → 2 * k < o → 2 * a < o
double_fits a k o h g = omega arith

double_is : two ≡ fin false 1 (pos 1)
unfolding of_bits
double_is = refl

module _ (w : List Float) (doubles : (j : ℕ) → T (fits binary64 (at w j))) (normal : Normal binary64 (length w) (at w)) where
  abbrev rest : List ℕ
  rest = rest_of w

  abbrev ω : Float
  ω = omega_of w

  rest_ends : (p : ℕ) → p < length rest → Finite binary64 (at w (get_or rest p 0))
  rest_ends p h = normal.ends (get_or rest p 0) (rest_on w p h).below

  -- each is at most ω
  rest-most : (p : ℕ) → p < length rest → mag binary64 (at w (get_or rest p 0)) ≤ mag binary64 ω
  rest-most p h =
      le_trans (le_of_eq (sym (finite-height (at w (get_or rest p 0)) (rest_ends p h).ends)))
      (le_trans (rest-tall w doubles p h)
      (le_trans (le_of_eq (finite-height (at w (get_or rest 0 0)) (rest_ends 0 (no_less p (length rest) h)).ends))
      (le_of_eq (sym (abs_mag binary64 (at w (get_or rest 0 0)))))))

  among_most : (j : ℕ) → Among rest j → mag binary64 (at w j) ≤ mag binary64 ω
  among_most j a = subst (λ (i : ℕ). mag binary64 (at w i) ≤ mag binary64 ω) a.there (rest-most a.place a.under)

  among_ends : (j : ℕ) → Among rest j → Finite binary64 (at w j)
  among_ends j a = subst (λ (i : ℕ). Finite binary64 (at w i)) a.there (rest_ends a.place a.under)

  among_small : (j : ℕ) → Among rest j → 2 * mag binary64 (at w j) < overflow binary64
  among_small j a =
      double_fits (mag binary64 (at w j)) K (overflow binary64)
      (normal.small j (subst (λ (i : ℕ). i < length w) a.there (rest_on w a.place a.under).below)) (lit< tt)

  -- ω is above 0 where there is any
  pub heaviest-positive : 0 < length rest → Positive binary64 ω
  unfolding of_bits
  heaviest-positive h =
      let x = at w (get_or rest 0 0) in
      let f = rest_ends 0 h in
      let s = abs_size (finite_number f) in
      let on : T (ltb 0 (mag binary64 x)) = subst T (nonzero_is (finite_number f)) (subst T (sym (rest_on w 0 h).on) tt) in
      record { fin = abs_finite f; plus = s.plus; some = subst (λ (m : ℕ). 0 < m) (sym (abs_mag binary64 x)) (ltb→lt 0 (mag binary64 x) on) }

  -- at the first halving
  pub weighed_first : Weighed w ω rest
  weighed_first = record { each = λ j a. record { ends = among_ends j a; most = twice_most (mag binary64 (at w j)) (mag binary64 ω) (among_most j a) } }

  -- and at the second, of what the first made of them
  pub weighed_second : (matrix : ℕ → ℕ → Float) (n : ℕ) (rng : Generator) (directions sweeps : ℕ)
      → Weighed (halved_once plus_zero matrix n ω rest (record { w = w; rng = rng; directions = directions; sweeps = sweeps })).w ω rest
  weighed_second matrix n rng directions sweeps =
      record { each = λ j a. go j a (moved-once plus_zero matrix n ω rest from (rest_distinct w) (λ p h. (rest_on w p h).below) j) }
    where
      from : Halved
      from = record { w = w; rng = rng; directions = directions; sweeps = sweeps }

      v : ℕ → Float
      v j = at (halved_once plus_zero matrix n ω rest from).w j

      go : (j : ℕ) → Among rest j → Moved w rest j (v j) → Within binary64 (2 * mag binary64 ω) (v j)
      go j a (stays e) = subst (Within binary64 (2 * mag binary64 ω)) (sym e) (weighed_first.each j a)
      go j a (doubled o b e) =
          subst (Within binary64 (2 * mag binary64 ω)) (sym (e ∙ ap (λ (d : Float). mul binary64 d (at w j)) double_is))
          (record {
            ends = twice-finite (among_ends j a) (among_small j a);
            most = le_trans
                (le_of_eq (twice-exact (among_ends j a) (among_small j a))) (mul-le-mul_left 2 (among_most j a));
          })
      go j a (zeroed o b e) =
          subst (Within binary64 (2 * mag binary64 ω)) (sym e) (unfold of_bits in record { ends = nought-finite binary64 false; most = zero-le })

-- ---- the scaled columns

two-units : grid binary64 2 1 ≡ 2 * K
two-units = grid-exact binary64 2 1 2 1074 (lit< tt) (lit< tt) (lit< tt) refl

times-one : (a b : ℕ) → a ≤ 2 * b → a * 1 ≤ 2 * b
times-one a b h = omega arith

-- a weight of at most 2 ω over ω
scale_within : {x ω : Float} → Positive binary64 ω → Within binary64 (2 * mag binary64 ω) x → Within binary64 (2 * K) (div binary64 x ω)
scale_within {x} {ω} q p =
    let f = binary64 in
    let r = div-units p.ends q in
    let m = under_cap (overflow f) (2 * K) (grid f (mag f x) (mag f ω)) (mag f (div f x ω))
    (le_trans (grid-le f (mag f x) (mag f ω) 2 1 q.some (lit< tt) (times-one (mag f x) (mag f ω) p.most)) (le_of_eq two-units)) r.size_is in
    record { ends = inside_finite (record { held = div-fits f x ω; num = r.number }) (lt_of_le_of_lt m (lit< tt)); most = m }

-- the columns of the matrix: finite entries of at most 1
pub record Columns (m n : ℕ) (matrix : ℕ → ℕ → Float) : Type 0 where
  pub each : (j i : ℕ) → j < m → i < n → Within binary64 K (matrix j i)

module _ (matrix : ℕ → ℕ → Float) (n : ℕ) (w : List Float) (ω : Float) (rest : List ℕ) (columns : Columns (length w) n matrix)
    (inside : (p : ℕ) → p < length rest → get_or rest p 0 < length w)
    (positive : 0 < length rest → Positive binary64 ω) (weighed : Weighed w ω rest) where
  abbrev some : List ℕ
  some = remaining w rest

  chosen : (p : ℕ) → p < length some → Among rest (get_or some p 0)
  chosen p h = (every_at (every_those {P = Among rest} (is_on w) rest (length rest) (λ q l. record { place = q; under = l; there = refl })) p h).1

  -- each scaled entry is at most 2, and the row of scales too
  pub scaled_within : (p i : ℕ) → p < length some → Within binary64 (2 * K) (scaled_columns matrix n w ω some p i)
  scaled_within p i h = go (ltb i n) refl
    where
      a : Among rest (get_or some p 0)
      a = chosen p h

      scale : Within binary64 (2 * K) (scale_at w ω some p)
      scale = scale_within (positive (no_less a.place (length rest) a.under)) (weighed.each (get_or some p 0) a)

      entry : i < n → Within binary64 K (matrix (get_or some p 0) i)
      entry g = columns.each (get_or some p 0) i (subst (λ (j : ℕ). j < length w) a.there (inside a.place a.under)) g

      go : (t : Bool) → ltb i n ≡ t → Within binary64 (2 * K)
          (pick t (mul binary64 (matrix (get_or some p 0) i) (scale_at w ω some p)) (abs_of (scale_at w ω some p)))
      go true e =
          let x = entry (ltb-true i n e) in
          record { ends = mul-finite x.ends scale.ends x.most; most = le_trans (mul-at-most x.ends scale.ends x.most) scale.most }
      go false e = record { ends = abs_finite scale.ends; most = le_trans (le_of_eq (abs_mag binary64 (scale_at w ω some p))) scale.most }

  pub scaled-bounded : Bounded (length some) (suc n) (scaled_columns matrix n w ω some)
  scaled-bounded = record { each = λ p i h g. let x = scaled_within p i h in record { ends = x.ends; most = le_trans x.most (lit≤ tt) } }
