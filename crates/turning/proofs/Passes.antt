-- The sign of a row, and the zero that a sum starts from, alter no pass: the colours are the same, and of magnitudes, none of which is -0.0, the sums are
-- the same from either zero. The row of a pass's scales is turned by nothing.
use Prim.Native.Nat.{ℕ, zero, suc, ◌+◌, ◌-◌, ◌*◌}
use mathlib.Core.Path.{◌≡◌, refl, ap, ◌∙◌}
use mathlib.Core.Bool.{Bool, true, false, cond, ◌&&◌}
use mathlib.Core.List.{List, [], ◌∷◌}
use native.Mathlib.Omega.{arith}
use borrow.Author.Tests.{ltb-true, ltb-false}
use lib.IntN.{pos}
use lib.Dec.{ltb, eqb}
use lib.ListN.{length, get_or}
use lib.Ieee.{Float, nan, inf, fin, Format, binary64, up, down, round, sum, add, mul, lt, of_bits}
use Rattle.seq.specs.Choice.{pick}
use Rattle.seq.specs.Lists.{tabulate}
use Rattle.seq.specs.Sums.{plus_zero, minus_zero, sum_from, sum_to, at}
use Rattle.ieee.specs.Magnitude.{abs_of}
use Rattle.ieee.specs.Flat.{Alike}
use Rattle.ieee.proofs.Signs.{nought_is}
use Rattle.ieee.proofs.Ops.{unlike_false}
use Rattle.ieee.proofs.Alikes.{alike_refl}
use Rattle.colored.specs.Coloring.{Colored}
use Rattle.weights.specs.Weights.{l1_of, sound, over_at, normalized}
use Rattle.ranking.specs.Ranking.{rest_of, omega_of}
use Rattle.doubling.specs.Doubling.{remaining, scale_at}
use Rattle.halved.specs.Halve.{scaled_columns, Halved, halved_by, halved_once}
use Rattle.passed.specs.Halving.{halved_twice, pass_of}
use Rattle.turning.proofs.Signed.{Facing, facing, mul_facing}
use Rattle.turning.proofs.Colourings.{coloring_same}
use Rattle.turning.proofs.Turned.{in_pass}

-- ---- the sum of magnitudes

minus_is : minus_zero ≡ fin true 0 (pos 0)
unfolding of_bits
minus_is = refl

-- -0 + b and +0 + b, of the same denominator
zero_first : (f : Format) (a b c : ℕ) → a ≡ 0 → sum f true a false b c ≡ sum f false a false b c
unfolding sum
zero_first f a b c e = go (ltb a b) refl (ltb b a) refl
  where
    go : (t : Bool) → ltb a b ≡ t → (u : Bool) → ltb b a ≡ u → cond t (round f false (b - a) c) (round f (true && u) (a - b) c) ≡ round f false (a + b) c
    go true h u g = ap (λ (m : ℕ). round f false m c) (let p : b - a ≡ a + b = omega arith in p)
    go false h true g = absurd (omega (arith, ltb-true b a g))
    go false h false g = ap (λ (m : ℕ). round f false m c) (let p : a - b ≡ a + b = omega (arith, ltb-false a b h) in p)

magnitude_first : (f : Format) (x : Float) → add f (fin true 0 (pos 0)) (abs_of x) ≡ add f (fin false 0 (pos 0)) (abs_of x)
unfolding add
magnitude_first f nan = refl
magnitude_first f (inf s) = refl
magnitude_first f (fin s m e) = zero_first f (0 * up (pos 0) * down e) (m * up e * down (pos 0)) (down (pos 0) * down e) (omega arith)

-- at least one magnitude
sums_same : (v : ℕ → Float) (k : ℕ) → sum_to minus_zero (λ j. abs_of (v j)) (suc k) ≡ sum_to plus_zero (λ j. abs_of (v j)) (suc k)
unfolding sum_from
sums_same v zero = rw (minus_is, nought_is) (magnitude_first binary64 (v 0))
sums_same v (suc k) = ap (λ (x : Float). add binary64 x (abs_of (v (suc k)))) (sums_same v k)

l1_same : (x : Float) (w : List Float) → l1_of minus_zero (x ∷ w) ≡ l1_of plus_zero (x ∷ w)
unfolding l1_of
l1_same x w = sums_same (at (x ∷ w)) (length w)

-- of no weights the sum is a zero, which is not sound
pub sound_same : (w : List Float) → sound (l1_of minus_zero w) ≡ sound (l1_of plus_zero w)
unfolding l1_of sum_from lt of_bits
sound_same [] = refl
sound_same (x ∷ w) = ap sound (l1_same x w)

pub normalized_same : (w : List Float) → normalized minus_zero w ≡ normalized plus_zero w
unfolding normalized tabulate
normalized_same [] = refl
normalized_same (x ∷ w) = ap (λ (d : Float). tabulate (over_at d (x ∷ w)) (length (x ∷ w))) (l1_same x w)

-- ---- the pass

-- a zero that a sum of magnitudes may start from
pub record Start (z : Float) : Type 0 where
  pub zero : Alike z plus_zero
  pub divides : (w : List Float) → normalized z w ≡ normalized plus_zero w

pub plus-start : Start plus_zero
plus-start = record { zero = alike_refl plus_zero; divides = λ w. refl }

minus_zero_lem : Alike minus_zero plus_zero
unfolding of_bits
minus_zero_lem = record { flatly = refl }

pub minus-start : Start minus_zero
minus-start = record { zero = minus_zero_lem; divides = normalized_same }

-- sums from such a zero and from +0.0, on two matrices that are alike once their turned rows are negated
module _ {z : Float} (start : Start z) (turns : ℕ → Bool) (matrix matrix' : ℕ → ℕ → Float)
    (same : (j i : ℕ) → Facing (turns i) (matrix j i) (matrix' j i)) (n : ℕ) where
  scaled_same : (w : List Float) (largest : Float) (rest : List ℕ) (p i : ℕ)
      → Facing (in_pass n turns i) (scaled_columns matrix n w largest rest p i) (scaled_columns matrix' n w largest rest p i)
  scaled_same w largest rest p i = go (ltb i n)
    where
      go : (t : Bool) → Facing (pick t (turns i) false)
          (pick t (mul binary64 (matrix (get_or rest p 0) i) (scale_at w largest rest p)) (abs_of (scale_at w largest rest p)))
          (pick t (mul binary64 (matrix' (get_or rest p 0) i) (scale_at w largest rest p)) (abs_of (scale_at w largest rest p)))
      go true = mul_facing binary64 (unlike_false (turns i)) (same (get_or rest p 0) i) (facing (alike_refl _))
      go false = facing (alike_refl _)

  once_same : (largest : Float) (rest : List ℕ) (h : Halved) → halved_once z matrix n largest rest h ≡ halved_once plus_zero matrix' n largest rest h
  unfolding halved_once
  once_same largest rest h =
      let r : List ℕ = remaining h.w rest in
      ap (λ (c : Colored). pick (eqb (length r) 0) h (halved_by h r c))
      (coloring_same z start.zero (in_pass n turns) (scaled_columns matrix n h.w largest r) (scaled_columns matrix' n h.w largest r) (scaled_same h.w largest r)
      (length r) (suc n) h.rng)

  twice_same : (h : Halved) → halved_twice z matrix n h ≡ halved_twice plus_zero matrix' n h
  unfolding halved_twice
  twice_same h =
      once_same (omega_of h.w) (rest_of h.w) (halved_once z matrix n (omega_of h.w) (rest_of h.w) h)
      ∙ ap (halved_once plus_zero matrix' n (omega_of h.w) (rest_of h.w)) (once_same (omega_of h.w) (rest_of h.w) h)

  pub pass_same : (h : Halved) → pass_of z matrix n h ≡ pass_of plus_zero matrix' n h
  unfolding pass_of
  pass_same h = rw (twice_same h, start.divides (halved_twice plus_zero matrix' n h).w)
