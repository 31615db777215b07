-- Of weights with a sound sum of magnitudes the largest, over the sum, is not 0: at most 256 doubles sum to at most 2 ^ 9 times the largest.
-- So normalized weights have a nonzero, and so have the weights after a pass.
use Prim.Native.Nat.{ℕ, zero, suc, ◌+◌, ◌*◌, ◌-◌, ◌^◌, ◌≤◌, ◌<◌}
use mathlib.Core.Path.{◌≡◌, refl, sym, ap, ◌∙◌, subst}
use mathlib.Core.Bool.{Bool, true, false, not}
use mathlib.Core.List.{List}
use native.Mathlib.Decide.{dec_lt}
use native.Mathlib.Nat.{le_trans, le_of_eq, lt_of_le_of_lt, mul-le-mul_right, pow-succ'}
use native.Mathlib.Omega.{arith}
use borrow.Author.Tests.{lt-ltb, le-ltb}
use lib.Dec.{T, lit≤}
use lib.ListN.{length}
use lib.Pow.{pow-lt, pow_pos}
use lib.Ieee.{Float, nan, Format, binary64, div, ne, low, prec}
use lib.Ieee.Scale.{overflow}
use Rattle.seq.specs.Choice.{pick}
use Rattle.seq.specs.Keep.{count}
use Rattle.seq.specs.Sums.{plus_zero, at, sum_from}
use Rattle.seq.proofs.Filling.{length-tab, get_or-tab}
use Rattle.ieee.specs.Flat.{is_zero}
use Rattle.ieee.specs.Magnitude.{abs_of}
use Rattle.ieee.specs.Units.{mag}
use Rattle.ieee.proofs.Units.{digits_room}
use Rattle.ieee.proofs.Ops.{Finite, Positive, finite_number, finite_inside}
use Rattle.ieee.proofs.Signs.{nought_is, nonzero_is, mag-nought, div_number, div-at-least}
use Rattle.ieee.proofs.Sums.{abs_mag, abs_size, sum_bound}
use Rattle.ieee.proofs.Norms.{l1, lone_sum}
use Rattle.ieee.proofs.Normalised.{Normal}
use Rattle.ieee.proofs.Zeros.{nonzero_not_zero}
use Rattle.weights.specs.Weights.{is_on, nonzeros, l1_of, over_at, normalized}
use Rattle.halved.specs.Halve.{Halved}
use Rattle.passed.specs.Halving.{halved_twice, pass_of}
use Rattle.passed.proofs.Fewer.{never, second, long_second, l1_is, second_ends, sum-positive}

-- ---- the largest of some numbers, and its power of two

record Most (g : ℕ → ℕ) (k : ℕ) : Type 0 where
  place : ℕ
  under : place < k
  most : (j : ℕ) → j < k → g j ≤ g place

largest : (g : ℕ → ℕ) (k : ℕ) → Most g (suc k)
largest g zero = record { place = 0; under = omega arith; most = λ j l. let e : j ≡ 0 = omega arith in rw e (omega arith) }
largest g (suc k) = go (largest g k) (dec_lt (g (largest g k).place) (g (suc k)))
  where
    go : (m : Most g (suc k)) → Dec (g m.place < g (suc k)) → Most g (suc (suc k))
    go m d = pick-one d
      where
        each : (t : ℕ) → g m.place ≤ t → g (suc k) ≤ t → (j : ℕ) → j < suc (suc k) → g j ≤ t
        each t a b j l = at_place (dec_lt j (suc k))
          where
            at_place : Dec (j < suc k) → g j ≤ t
            at_place (yes h) = le_trans (m.most j h) a
            at_place (no h) = let e : j ≡ suc k = omega arith in rw e b

        pick-one : Dec (g m.place < g (suc k)) → Most g (suc (suc k))
        pick-one (yes h) = record { place = suc k; under = omega arith; most = each (g (suc k)) (omega arith) (omega arith) }
        pick-one (no h) = record { place = m.place; under = omega (arith, m.under); most = each (g m.place) (omega arith) (omega arith) }

record Bits (t : ℕ) : Type 0 where
  exponent : ℕ
  from : 2 ^ exponent ≤ t
  below : t < 2 ^ suc exponent

under-power : (t : ℕ) → t < 2 ^ t
under-power zero = omega arith
under-power (suc t) = omega (arith, under-power t, pow-succ' 2 t)

bits : (t : ℕ) → 0 < t → Bits t
bits t h = go t 0 (omega arith) (subst (λ (z : ℕ). t < 2 ^ z) (let g : t ≡ 0 + t = omega arith in g) (under-power t))
  where
    go : (n q : ℕ) → 2 ^ q ≤ t → t < 2 ^ (q + n) → Bits t
    go zero q a b = absurd (let e : 2 ^ (q + 0) ≡ 2 ^ q = ap (λ (z : ℕ). 2 ^ z) (let g : q + 0 ≡ q = omega arith in g) in omega arith)
    go (suc n) q a b = choose (dec_lt t (2 ^ suc q)) (go n (suc q))
      where
        choose : Dec (t < 2 ^ suc q) → (2 ^ suc q ≤ t → t < 2 ^ (suc q + n) → Bits t) → Bits t
        choose (yes l) more = record { exponent = q; from = a; below = l }
        choose (no l) more = more (omega arith) (subst (λ (z : ℕ). t < 2 ^ z) (let g : q + suc n ≡ suc q + n = omega arith in g) b)

-- ---- over the sum it is not 0

-- a weight that is not 0 over the sum
pub record Share (f : Format) (w : ℕ → Float) (k : ℕ) : Type 0 where
  pub place : ℕ
  pub under : place < k
  pub some : 0 < mag f (div f (w place) (l1 f w k))

module _ (f : Format) (w : ℕ → Float) (k : ℕ) (ends : (j : ℕ) → j < suc k → Finite f (w j)) (few : suc k ≤ 2 ^ 8) (positive : Positive f (l1 f w (suc k))) where
  top : Most (λ j. mag f (w j)) (suc k)
  top = largest (λ j. mag f (w j)) k

  abbrev heaviest : ℕ
  heaviest = top.place

  -- were it 0, so would be the sum
  some : 0 < mag f (w heaviest)
  some = go (dec_lt 0 (mag f (w heaviest)))
    where
      zero_at : (j : ℕ) → j < suc k → mag f (w heaviest) ≤ 0 → T (is_zero (w j))
      zero_at j l h =
          is (is_zero (w j)) (sym (nonzero_not_zero (w j)) ∙ nonzero_is (finite_number (ends j l)) ∙ le-ltb 0 (mag f (w j)) (omega (arith, top.most j l)))
        where
          is : (t : Bool) → not t ≡ false → T t
          is true e = tt
          is false e = subst T e tt

      go : Dec (0 < mag f (w heaviest)) → 0 < mag f (w heaviest)
      go (yes h) = h
      go (no h) =
          let sum = ap (mag f) (lone_sum f w (suc k) heaviest top.under ends (λ j l d. zero_at j l (omega arith))) ∙ abs_mag f (w heaviest) in
          absurd (omega (arith, sum, positive.some))

  power : Bits (mag f (w heaviest))
  power = bits (mag f (w heaviest)) some

  sum-under : mag f (l1 f w (suc k)) ≤ suc k * 2 ^ suc power.exponent
  sum-under = go (dec_lt (suc k * 2 ^ suc power.exponent) (overflow f))
    where
      go : Dec (suc k * 2 ^ suc power.exponent < overflow f) → mag f (l1 f w (suc k)) ≤ suc k * 2 ^ suc power.exponent
      go (yes h) =
          sum_bound f (λ j. abs_of (w j)) (suc power.exponent) (suc k) (λ j l. abs_size (finite_number (ends j l)))
          (λ j l. le_trans (le_of_eq (abs_mag f (w j))) (omega (arith, top.most j l, power.below)))
          (lt_of_le_of_lt few (pow-lt (let d = digits_room f in let g : 8 < prec f = omega arith in g))) h
      go (no h) = omega (arith, finite_inside positive.fin)

  sum-at-most : mag f (l1 f w (suc k)) ≤ mag f (w heaviest) * 2 ^ 9
  sum-at-most =
      omega (arith, sum-under, mul-le-mul_right (2 ^ suc power.exponent) few, pow-succ' 2 power.exponent, power.from)

  pub share_left : 9 ≤ low f → Share f w (suc k)
  share_left room =
      record {
        place = heaviest;
        under = top.under;
        some = le_trans (pow_pos (low f - 9)) (div-at-least 9 (ends heaviest top.under) positive room sum-at-most);
      }

-- ---- so normalized weights have a nonzero

count-some : (t : ℕ → Bool) (k j : ℕ) → j < k → t j ≡ true → 1 ≤ count t k
unfolding count
count-some t zero j l e = absurd (omega arith)
count-some t (suc k) j l e = go (t k) refl (count-some t k j) (dec_lt j k)
  where
    go : (b : Bool) → t k ≡ b → (j < k → t j ≡ true → 1 ≤ count t k) → Dec (j < k) → 1 ≤ pick b (suc (count t k)) (count t k)
    go true h r d = omega arith
    go false h r (yes g) = r g e
    go false h r (no g) = absurd (let same : j ≡ k = omega arith in never (sym (ap t same) ∙ e) h)

pub normalized-some : (w : List Float) → ((j : ℕ) → j < length w → Finite binary64 (at w j)) → length w ≤ 256 → Positive binary64 (l1_of plus_zero w)
    → 1 ≤ nonzeros (normalized plus_zero w)
unfolding normalized
normalized-some w ends few positive = go (length w) refl
  where
    is_sum : (k : ℕ) → length w ≡ k → Positive binary64 (l1 binary64 (at w) k)
    is_sum k e = subst (Positive binary64) (l1_is w k e) positive

    go : (k : ℕ) → length w ≡ k → 1 ≤ nonzeros (normalized plus_zero w)
    go zero e = absurd (let h = (is_sum 0 e).some in unfold sum_from in omega (arith, h, mag-nought binary64 false))
    go (suc k) e =
        let p = is_sum (suc k) e in
        let left = share_left binary64 (at w) k (λ j l. ends j (omega arith)) (omega arith) p (lit≤ tt) in
        let i : ℕ = left.place in
        let l : i < length w = omega (arith, left.under) in
        let x : Float = div binary64 (at w i) (l1 binary64 (at w) (suc k)) in
        let on : ne x plus_zero ≡ true = ap (ne x) nought_is ∙ nonzero_is (div_number (ends i l) p) ∙ lt-ltb 0 (mag binary64 x) left.some in
        let same : at (normalized plus_zero w) i ≡ x = get_or-tab (over_at (l1_of plus_zero w) w) (length w) i nan l
        ∙ ap (div binary64 (at w i)) (l1_is w (suc k) e) in
        count-some (is_on (normalized plus_zero w)) (length (normalized plus_zero w)) i (rw (length-tab (over_at (l1_of plus_zero w) w) (length w)) l) (rw same on)

-- and so have the weights after a pass
pub pass_some : (matrix : ℕ → ℕ → Float) (n : ℕ) (h : Halved) → 2 ≤ nonzeros h.w → Normal binary64 (length h.w) (at h.w) → length h.w ≤ 256
    → 1 ≤ nonzeros (pass_of plus_zero matrix n h).w
unfolding pass_of halved_twice
pass_some matrix n h some normal few =
    let long = long_second plus_zero matrix n h in
    normalized-some (second plus_zero matrix n h).w (λ j l. second_ends matrix n h some normal few j (omega arith)) (omega arith)
    (sum-positive matrix n h some normal few)
