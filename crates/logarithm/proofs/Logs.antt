-- The logarithm's rule is within 1 / 2 ^ 40 of the exact fraction, and never positive: the shortfalls of the powers are added up,
-- and the exact sum grows with s, so that it is at most that at 1 / 3.
use Prim.Native.Nat.{ℕ, zero, suc, ◌+◌, ◌-◌, ◌*◌, ◌/◌, ◌^◌, ◌≤◌, ◌<◌}
use mathlib.Core.Path.{◌≡◌, refl, ap, ◌∙◌, subst}
use native.Mathlib.Nat.{le_refl, le_trans, le_of_eq, le_of_lt, lt_of_le_of_lt, lt_of_not-le, div-add-mod', mul-le-mul, mul-le-mul_left}
use native.Mathlib.Nat.{mul-le-mul_right, div-mul-le_self, lt-div-mul-add, pow-zero, pow-suc, pow-le-pow_left, div-le_of_le-mul}
use native.Mathlib.Nat.{div-le_self, mod-lt, mul-pos, one-le-pow, le_of_mul-le-mul_right}
use native.Mathlib.Decide.{dec_le}
use native.Mathlib.Omega.{arith}
use lib.Dec.{lit<, lit≤}
use Rattle.divisors.proofs.Both.{mul_pow}
use Rattle.logarithm.specs.Logarithm.{ratio, ratio_square, power, odd_sum, third, depth, low, places}
use Rattle.logarithm.specs.Bounds.{odds, LogNear}

-- s units of 1 / 2 ^ 59, at most e short of the fraction a / b
pub record Near (s a e b : ℕ) : Type 0 where
  pub low : s * b ≤ 2 ^ 59 * a
  pub high : 2 ^ 59 * a ≤ (s + e) * b

both : (s a e b t c f d : ℕ) → Near s a e b → Near t c f d → Near (s + t) (a * d + c * b) (e + f) (b * d)
both s a e b t c f d h g = record {
  low = omega (arith, mul-le-mul_right d h.low, mul-le-mul_right b g.low);
  high = omega (arith, mul-le-mul_right d h.high, mul-le-mul_right b g.high);
}

-- a power over its odd divisor
parted : (p a e b g : ℕ) → 0 < g → Near p a e b → Near (p / g) a (e + 1) (b * g)
parted p a e b g l h =
    let lower : p / g * g ≤ p = div-mul-le_self p g in
    let upper : p < p / g * g + g = lt-div-mul-add l in
    let wide : e ≤ e * g = omega (arith, mul-le-mul_left e l) in
    go (p / g) lower upper wide
  where
    go : (t : ℕ) → t * g ≤ p → p < t * g + g → e ≤ e * g → Near t a (e + 1) (b * g)
    go t lower upper wide =
        let k : p + e ≤ (t + (e + 1)) * g = omega arith in
        record { low = omega (arith, mul-le-mul_right b lower, h.low); high = omega (arith, mul-le-mul_right b k, h.high) }

-- a step of the power: w is 2 ^ 64 * (f / g) ^ 2, rounded down, or 2 ^ 14 + 2 short at most
step : (p w f g a e b : ℕ) → w * (g * g) ≤ 2 ^ 64 * (f * f) → 2 ^ 64 * (f * f) ≤ (w + (2 ^ 14 + 2)) * (g * g) → w + (2 ^ 14 + 2) ≤ 2 ^ 64 → p < 2 ^ 59
    → Near p a e b → Near (p * w / 2 ^ 64) (a * (f * f)) (e + 514) (b * (g * g))
step p w f g a e b lo hi wle small h = go (p * w / 2 ^ 64) (div-mul-le_self (p * w) (2 ^ 64)) (lt-div-mul-add (lit< tt))
  where
    go : (q : ℕ) → q * 2 ^ 64 ≤ p * w → p * w < q * 2 ^ 64 + 2 ^ 64 → Near q (a * (f * f)) (e + 514) (b * (g * g))
    go q ql qh =
        let core : (p + e) * (w + (2 ^ 14 + 2)) ≤ (q + (e + 514)) * 2 ^ 64 = omega (arith, mul-le-mul_left e wle) in
        record {
          low = omega (arith, mul-le-mul_right (b * (g * g)) ql, mul-le-mul h.low lo);
          high = omega (arith, mul-le-mul h.high hi, mul-le-mul_right (b * (g * g)) core);
        }

odd_power : (x k : ℕ) → x ^ (2 * suc k + 1) ≡ x ^ (2 * k + 1) * (x * x)
odd_power x k =
    let e : 2 * suc k + 1 ≡ suc (suc (2 * k + 1)) = omega arith in
    ap (λ (n : ℕ). x ^ n) e ∙ rw (pow-suc x (suc (2 * k + 1)), pow-suc x (2 * k + 1)) (omega arith)

first-power : (x : ℕ) → x ^ 1 ≡ x
first-power x = rw (pow-suc x 0, pow-zero x) (omega arith)

-- how many units the sum of k powers is short at most
unfoldable pub err_sum : ℕ → ℕ
err_sum zero = 0
err_sum (suc k) = err_sum k + (514 * (k + 1) + 1)

module _ (q : ℕ) (q_small : q < 2 ^ 49) where
  pub w-low : ratio_square q * 2 ^ 36 ≤ q * q
  w-low = omega (arith, div-mul-le_self (q * 2 ^ 14 * (q * 2 ^ 14)) (2 ^ 64))

  pub w_high : q * q < (ratio_square q + 1) * 2 ^ 36
  w_high = omega (arith, lt-div-mul-add {a = q * 2 ^ 14 * (q * 2 ^ 14)} {b = 2 ^ 64} (lit< tt))

  pub w_small : ratio_square q + (2 ^ 14 + 2) ≤ 2 ^ 64
  w_small = omega (arith, w-low, mul-le-mul (le_of_lt q_small) (le_of_lt q_small))

  pub power_small : (k : ℕ) → power q k < 2 ^ 58
  unfolding power
  power_small zero = omega (arith, q_small)
  power_small (suc k) =
      lt_of_le_of_lt (div-le_of_le-mul (2 ^ 64) {m = power q k * ratio_square q} {n = power q k}
      (omega (arith, mul-le-mul_left (power q k) w_small))) (power_small k)

  pub sum_small : (k : ℕ) → odd_sum q k ≤ k * 2 ^ 58
  unfolding odd_sum
  sum_small zero = le_refl 0
  sum_small (suc k) = omega (arith, sum_small k, power_small k, div-le_self (power q k) (2 * k + 1))

-- s is at most 1 / 3, so a power is at most a ninth of the one before, and from the seventeenth on it is below its divisor
module _ (q : ℕ) (third-part : 3 * q ≤ 2 ^ 50) where
  pub q_half : q < 2 ^ 49
  q_half = omega arith

  ninth : 9 * ratio_square q ≤ 2 ^ 64
  ninth =
      let nine : 9 * ratio_square q * 2 ^ 36 ≤ 3 * q * (3 * q) = omega (arith, w-low q q_half) in
      le_of_mul-le-mul_right {m = 9 * ratio_square q} {n = 2 ^ 64} {k = 2 ^ 36} (le_trans nine (mul-le-mul third-part third-part)) (lit< tt)

  falls : (k : ℕ) → 9 * power q (suc k) ≤ power q k
  unfolding power
  falls k = omega (arith, div-mul-le_self (power q k * ratio_square q) (2 ^ 64), mul-le-mul_left (power q k) ninth)

  shrunk : (k : ℕ) → 9 ^ k * power q k ≤ q * 2 ^ 9
  unfolding power
  shrunk zero = rw (pow-zero 9) (omega arith)
  shrunk (suc k) = rw (pow-suc 9 k) (le_trans (omega (arith, mul-le-mul_left (9 ^ k) (falls k))) (shrunk k))

  pub skipped : odd_sum q 21 ≡ odd_sum q 17
  unfolding odd_sum
  skipped = go (odd_sum q 17) (power q 17) (power q 18) (power q 19) (power q 20) (shrunk 17) (falls 17) (falls 18) (falls 19)
    where
      go : (s a b c d : ℕ) → 9 ^ 17 * a ≤ q * 2 ^ 9 → 9 * b ≤ a → 9 * c ≤ b → 9 * d ≤ c → s + a / 35 + b / 37 + c / 39 + d / 41 ≡ s
      go s a b c d h i j k = omega arith

module _ (f g q : ℕ) (pos : 0 < g) (ql : q * g ≤ f * 2 ^ 50) (qh : f * 2 ^ 50 < q * g + g) (tri : f * 3 ≤ g) where
  pub q_third : 3 * q ≤ 2 ^ 50
  q_third = le_of_mul-le-mul_right {m = 3 * q} {n = 2 ^ 50} {k = g} (omega arith) pos

  q_small : q < 2 ^ 49
  q_small = q_half q q_third

  lo : ratio_square q * (g * g) ≤ 2 ^ 64 * (f * f)
  lo = omega (arith, mul-le-mul_right (g * g) (w-low q q_small), mul-le-mul ql ql)

  hi : 2 ^ 64 * (f * f) ≤ (ratio_square q + (2 ^ 14 + 2)) * (g * g)
  hi =
      let one : f * 2 ^ 50 ≤ (q + 1) * g = omega arith in
      let two : (q + 1) * (q + 1) ≤ (ratio_square q + (2 ^ 14 + 2)) * 2 ^ 36 = omega (arith, w_high q q_small, q_small) in
      omega (arith, mul-le-mul one one, mul-le-mul_right (g * g) two)

  power_near : (k : ℕ) → Near (power q k) (f ^ (2 * k + 1)) (514 * (k + 1)) (g ^ (2 * k + 1))
  unfolding power
  power_near zero = record { low = rw (first-power f, first-power g) (omega (arith, ql)); high = rw (first-power f, first-power g) (omega (arith, qh)) }
  power_near (suc k) =
      rw (odd_power f k, odd_power g k)
      (subst (λ (e : ℕ). Near (power q k * ratio_square q / 2 ^ 64) (f ^ (2 * k + 1) * (f * f)) e (g ^ (2 * k + 1) * (g * g))) (count k)
      (step (power q k) (ratio_square q) f g (f ^ (2 * k + 1)) (514 * (k + 1)) (g ^ (2 * k + 1)) lo hi (w_small q q_small)
      (omega (arith, power_small q q_small k)) (power_near k)))
    where
      count : (k : ℕ) → 514 * (k + 1) + 514 ≡ 514 * (suc k + 1)
      count k = omega arith

  pub sum_near : (k : ℕ) → Near (odd_sum q k) (odds f g k).0 (err_sum k) (odds f g k).1
  unfolding odd_sum odds err_sum
  sum_near zero = record { low = le_refl 0; high = le_refl 0 }
  sum_near (suc k) =
      both (odd_sum q k) (odds f g k).0 (err_sum k) (odds f g k).1 (power q k / (2 * k + 1)) (f ^ (2 * k + 1)) (514 * (k + 1) + 1)
      (g ^ (2 * k + 1) * (2 * k + 1))
      (sum_near k) (parted (power q k) (f ^ (2 * k + 1)) (514 * (k + 1)) (g ^ (2 * k + 1)) (2 * k + 1) (omega arith) (power_near k))

-- ---- the exact sums grow with the fraction

one_pow : (n : ℕ) → 1 ^ n ≡ 1
one_pow zero = pow-zero 1
one_pow (suc n) = rw (pow-suc 1 n, one_pow n)

odds-pos : (p q : ℕ) → 0 < q → (k : ℕ) → 0 < (odds p q k).1
unfolding odds
odds-pos p q h zero = lit< tt
odds-pos p q h (suc k) = mul-pos (odds-pos p q h k) (mul-pos (one-le-pow (2 * k + 1) q h) (omega arith))

odds_grow : (f g : ℕ) → f * 3 ≤ g → (k : ℕ) → (odds f g k).0 * (odds 1 3 k).1 ≤ (odds 1 3 k).0 * (odds f g k).1
unfolding odds
odds_grow f g h zero = le_refl 0
odds_grow f g h (suc k) =
    let n = 2 * k + 1 in
    let term : f ^ n * 3 ^ n ≤ g ^ n = subst (λ (x : ℕ). x ≤ g ^ n) (mul_pow f 3 n) (pow-le-pow_left h n) in
    rw (one_pow (2 * k + 1))
    (join (odds f g k).0 (odds f g k).1 (odds 1 3 k).0 (odds 1 3 k).1 (f ^ n) (g ^ n) (3 ^ n) n (odds_grow f g h k) term)
  where
    join : (a b c d x y z n : ℕ) → a * d ≤ c * b → x * z ≤ y → (a * (y * n) + x * b) * (d * (z * n)) ≤ (c * (z * n) + 1 * d) * (b * (y * n))
    join a b c d x y z n h t = omega (arith, mul-le-mul_right (y * n * (z * n)) h, mul-le-mul_right (b * d * n) t)

-- ---- the constant

third-low : 2 ^ 59 * (odds 1 3 21).0 ≤ third * (odds 1 3 21).1
unfolding odds
third-low = lit≤ tt

third_high : third * (odds 1 3 21).1 ≤ 2 ^ 59 * (odds 1 3 21).0 + (odds 1 3 21).1
unfolding odds
third_high = lit≤ tt

err_sum_21 : err_sum 21 ≡ 118755
unfolding err_sum
err_sum_21 = refl

nothing : odd_sum (ratio 0) 21 ≡ 0
unfolding odd_sum ratio
nothing = refl

-- ---- the rule at the bits b

-- the bits of 1
abbrev pub one-bits : ℕ
one-bits = 1023 * 2 ^ 52

module _ (b : ℕ) (h : b ≤ one-bits) where
  f_small : low b < 2 ^ 52
  f_small = mod-lt b (lit< tt)

  g-pos : 0 < low b + 2 ^ 53
  g-pos = omega arith

  ratio-low : ratio (low b) * (low b + 2 ^ 53) ≤ low b * 2 ^ 50
  unfolding ratio
  ratio-low = div-mul-le_self (low b * 2 ^ 50) (low b + 2 ^ 53)

  ratio_high : low b * 2 ^ 50 < ratio (low b) * (low b + 2 ^ 53) + (low b + 2 ^ 53)
  unfolding ratio
  ratio_high = lt-div-mul-add g-pos

  tri : low b * 3 ≤ low b + 2 ^ 53
  tri = omega (arith, f_small)

  pub ratio-third : 3 * ratio (low b) ≤ 2 ^ 50
  ratio-third = q_third (low b) (low b + 2 ^ 53) (ratio (low b)) g-pos ratio-low ratio_high tri

  near : Near (odd_sum (ratio (low b)) 21) (odds (low b) (low b + 2 ^ 53) 21).0 (err_sum 21) (odds (low b) (low b + 2 ^ 53) 21).1
  near = sum_near (low b) (low b + 2 ^ 53) (ratio (low b)) g-pos ratio-low ratio_high tri 21

  at-most-third : odd_sum (ratio (low b)) 21 ≤ third
  at-most-third =
      go (odd_sum (ratio (low b)) 21) (odds (low b) (low b + 2 ^ 53) 21).0 (odds (low b) (low b + 2 ^ 53) 21).1 (odds 1 3 21).0 (odds 1 3 21).1
      near.low (odds_grow (low b) (low b + 2 ^ 53) tri 21) third-low (mul-pos (odds-pos (low b) (low b + 2 ^ 53) g-pos 21) (odds-pos 1 3 (lit< tt) 21))
    where
      go : (s a d c e : ℕ) → s * d ≤ 2 ^ 59 * a → a * e ≤ c * d → 2 ^ 59 * c ≤ third * e → 0 < d * e → s ≤ third
      go s a d c e x y z p = le_of_mul-le-mul_right {m = s} {n = third} {k = d * e} (omega (arith, mul-le-mul_right e x, mul-le-mul_right d z)) p

  -- where the exponent's field is that of 1, u is 1, and the sum is 0
  pub never_below : odd_sum (ratio (low b)) 21 ≤ places b * third
  never_below = either (dec_le 1 (places b))
    where
      either : Dec (1 ≤ places b) → odd_sum (ratio (low b)) 21 ≤ places b * third
      either (yes l) = le_trans at-most-third (omega (arith, mul-le-mul_right third l))
      either (no l) =
          let z : places b < 1 = lt_of_not-le l in
          let e : low b ≡ 0 = omega (arith, div-add-mod' b (2 ^ 52)) in
          le_trans (le_of_eq (ap (λ (x : ℕ). odd_sum (ratio x) 21) e ∙ nothing)) (omega arith)

  pub logarithm_near : LogNear (depth b) (places b) (odds (low b) (low b + 2 ^ 53) 21) (odds 1 3 21)
  unfolding depth
  logarithm_near =
      let w = places b * third - odd_sum (ratio (low b)) 21 in
      go (w / 2 ^ 11) (places b) (odd_sum (ratio (low b)) 21) (err_sum 21)
      (odds (low b) (low b + 2 ^ 53) 21).0 (odds (low b) (low b + 2 ^ 53) 21).1 (odds 1 3 21).0 (odds 1 3 21).1
      (omega (arith, div-mul-le_self w (2 ^ 11), never_below)) (omega (arith, lt-div-mul-add {a = w} {b = 2 ^ 11} (lit< tt)))
      near (omega (arith, err_sum_21)) third-low third_high
    where
      go : (y e s r a d c v : ℕ) → y * 2 ^ 11 + s ≤ e * third → e * third ≤ y * 2 ^ 11 + s + 2 ^ 11 → Near s a r d → r + e ≤ 2 ^ 18
          → 2 ^ 59 * c ≤ third * v → third * v ≤ 2 ^ 59 * c + v → LogNear y e (a, d) (c, v)
      go y e s r a d c v yl yh n rl tl th = record {
        above = omega (arith, mul-le-mul_right (d * v) yl, mul-le-mul_right (e * d) th, mul-le-mul_right v n.high, mul-le-mul_right (d * v) rl);
        below = omega (arith, mul-le-mul_right (d * v) yh, mul-le-mul_right (e * d) tl, mul-le-mul_right v n.low);
      }
