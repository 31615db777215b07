-- From the integer root to the rounded one: the bit pattern that the code makes of q is the pattern of `root_of`, and `sqrt_of` of a bit pattern is `root_of`
-- of its units.
use Prim.Native.Nat.{ℕ, zero, suc, ◌+◌, ◌-◌, ◌*◌, ◌/◌, ◌%◌, ◌^◌, ◌≤◌, ◌<◌}
use native.Mathlib.Nat.{lt_of_lt_of_le, zero-mul, mul_assoc, mul-mul-mul_comm, mul-pos, mul-le-mul_right, mul-lt-mul_of_pos_right, mul-div_cancel}
use native.Mathlib.Omega.{arith}
use mathlib.Core.Path.{◌≡◌, refl, sym, ap, ◌∙◌}
use mathlib.Core.Bool.{Bool, true, false, cond, true≢false}
use lib.Dec.{ltb, lt→ltb}
use lib.Pow.{pow-add, pow_pos, pow_mono, shl_lt}
use lib.Ieee.{Float, nan, inf, fin, binary64, low, up, down, size, odd, units, round, of_bits}
use lib.Ieee.Fits.{round_is, down_pos}
use lib.Ieee.Exact.{HasValue, odd_sign}
use lib.Ieee.Bits.{is_true}
use lib.Ieee.Nearest.{closest, closest_same}
use Rattle.root.specs.Root.{root_of, sqrt_of}
use Rattle.root.proofs.RootFloor.{sq-lt, halves, halves_ge, halves_lt, halves_gt}
use Rattle.root.proofs.RootRounding.{closest_is, size_is, odd-more, pattern_is, low_is}

-- ---- the significand R = (q + 1) / 2, by q and the number N = M * 2 ^ 54 whose root is between q and q + 1
-- A is 2 * R - 1: N lies strictly between the squares of 2 * R - 1 and 2 * R + 1.
pub record Signif (N R : ℕ) : Type 0 where
  pub full : 2 ^ 52 ≤ R
  pub short : R < 2 ^ 53
  pub A : ℕ
  pub next : A + 1 ≡ 2 * R
  pub above : A * A < N
  pub below : N < (2 * R + 1) * (2 * R + 1)

odd-square : (p x : ℕ) → (2 * p + 1) * (2 * p + 1) ≡ x * 2 ^ 54 → ⊥
odd-square p x e = omega arith

even_q : (M p : ℕ) → 2 ^ 53 ≤ 2 * p → 2 * p < 2 ^ 54 - 1 → 2 * p * (2 * p) ≤ M * 2 ^ 54 → M * 2 ^ 54 < (2 * p + 1) * (2 * p + 1) → Signif (M * 2 ^ 54) p
even_q M zero lo hi a b = absurd (omega arith)
even_q M (suc p) lo hi a b = record { full = omega arith; short = omega arith; A = 2 * p + 1; next = omega arith; above = omega arith; below = omega arith }

odd_q : (M p : ℕ) → 2 ^ 53 ≤ 2 * p + 1 → 2 * p + 1 < 2 ^ 54 - 1 → (2 * p + 1) * (2 * p + 1) ≤ M * 2 ^ 54 → M * 2 ^ 54 < (2 * p + 2) * (2 * p + 2)
    → Signif (M * 2 ^ 54) (p + 1)
odd_q M p lo hi a b =
    let no : (2 * p + 1) * (2 * p + 1) ≡ M * 2 ^ 54 → ⊥ = odd-square p M in
    record { full = omega arith; short = omega arith; A = 2 * p + 1; next = omega arith; above = omega arith; below = omega arith }

pub signif : (M q : ℕ) → 2 ^ 52 ≤ M → M ≤ 2 ^ 54 - 2 → q * q ≤ M * 2 ^ 54 → M * 2 ^ 54 < (q + 1) * (q + 1) → Signif (M * 2 ^ 54) ((q + 1) / 2)
signif M q lo hi a b = go (q / 2) (q % 2) (omega arith) refl
  where
    ge : 2 ^ 53 ≤ q
    ge = let l : 2 ^ 53 < q + 1 = sq-lt (2 ^ 53) (q + 1) (omega arith) in omega arith

    lt : q < 2 ^ 54 - 1
    lt = sq-lt q (2 ^ 54 - 1) (omega arith)

    go : (p d : ℕ) → q ≡ 2 * p + d → d ≡ q % 2 → Signif (M * 2 ^ 54) ((q + 1) / 2)
    go p zero e f =
        let g : q ≡ 2 * p = omega arith in
        let r : (q + 1) / 2 ≡ p = omega arith in
        rw r (even_q M p (rw g at ge) (rw g at lt) (rw g at a) (rw g at b))
    go p (suc zero) e f =
        let r : (q + 1) / 2 ≡ p + 1 = omega arith in
        rw r (odd_q M p (rw e at ge) (rw e at lt) (rw e at a) (let f' : M * 2 ^ 54 < (2 * p + 1 + 1) * (2 * p + 1 + 1) = rw e at b in omega arith))
    go p (suc (suc d)) e f = absurd (omega arith)

-- ---- the number whose root the definition takes is N times a square
scaled-lt : (a x w : ℕ) → 0 < w → a * a < x → a * w * (a * w) < x * (w * w)
scaled-lt a x w W h = rw (mul-mul-mul_comm a w a w) (mul-lt-mul_of_pos_right h (mul-pos W W))

scaled_gt : (b x w : ℕ) → 0 < w → x < b * b → x * (w * w) < b * w * (b * w)
scaled_gt b x w W h = rw (mul-mul-mul_comm b w b w) (mul-lt-mul_of_pos_right h (mul-pos W W))

scaled-le : (a x w : ℕ) → a * a ≤ x → a * w * (a * w) ≤ x * (w * w)
scaled-le a x w h = rw (mul-mul-mul_comm a w a w) (mul-le-mul_right (w * w) h)

same_number : (n M p : ℕ) → n * 2 ^ 52 ≡ M * (p * p) → n * 4 ^ 54 ≡ M * 2 ^ 54 * (2 * p * (2 * p))
same_number n M p e = omega arith

-- twice the root of n * 4 ^ 54, by u = 4 * p: near R * (2 * u), and of 54 digits and those of u
pub record Around (v u R : ℕ) : Type 0 where
  pub above : R * (2 * u) < v + u
  pub below : v < R * (2 * u) + u
  pub full : 2 ^ 53 * u ≤ v
  pub short : v < 2 ^ 54 * u

pub around : (n M p R : ℕ) → 0 < p → n * 2 ^ 52 ≡ M * (p * p) → 2 ^ 52 ≤ M → M ≤ 2 ^ 54 - 2 → Signif (M * 2 ^ 54) R → Around (halves (n * 4 ^ 54)) (4 * p) R
around n M p R P e lo hi s =
    let W : 0 < 2 * p = omega arith in
    let w = 2 * p in
    let N = same_number n M p e in
    let v = halves (n * 4 ^ 54) in
    let a : 2 * (s.A * w) < v = halves_gt (n * 4 ^ 54) (s.A * w) (rw N (scaled-lt s.A (M * 2 ^ 54) w W s.above)) in
    let b : v < 2 * ((2 * R + 1) * w) = halves_lt (n * 4 ^ 54) ((2 * R + 1) * w) (rw N (scaled_gt (2 * R + 1) (M * 2 ^ 54) w W s.below)) in
    let c : 2 * (2 ^ 53 * w) ≤ v = halves_ge (n * 4 ^ 54) (2 ^ 53 * w) (rw N (scaled-le (2 ^ 53) (M * 2 ^ 54) w (omega arith))) in
    let d : v < 2 * (2 ^ 54 * w) = halves_lt (n * 4 ^ 54) (2 ^ 54 * w) (rw N (scaled_gt (2 ^ 54) (M * 2 ^ 54) w W (omega arith))) in
    let f : (s.A + 1) * w ≡ 2 * R * w = ap (λ (z : ℕ). z * w) s.next in
    record { above = omega arith; below = omega arith; full = omega arith; short = omega arith }

-- ---- `round` of v / 2 ^ 592
shift : (v : ℕ) → v * 2 ^ 1074 / 2 ^ 592 ≡ v * 2 ^ 482
shift v = ap (λ (z : ℕ). z / 2 ^ 592) (sym (mul_assoc v (2 ^ 482) (2 ^ 592))) ∙ mul-div_cancel (v * 2 ^ 482) (pow_pos 592)

digits_of : (h v R : ℕ) → Around v (4 * 2 ^ h) R → size (v * 2 ^ 482) ≡ suc (h + 55 + 482)
digits_of h v R a =
    let e : 2 ^ (h + 55) ≡ 2 ^ h * 2 ^ 55 = pow-add 2 h 55 in
    let f : 2 ^ (h + 56) ≡ 2 ^ h * 2 ^ 56 = pow-add 2 h 56 in
    let lo : 2 ^ (h + 55) ≤ v = omega arith in
    let hi : v < 2 ^ (h + 56) = omega arith in
    let g : h + 56 + 482 ≡ suc (h + 55 + 482) = omega arith in
    size_is (h + 55 + 482) (v * 2 ^ 482) (rw (pow-add 2 (h + 55) 482) (mul-le-mul_right (2 ^ 482) lo)) (rw (← g) (shl_lt (h + 56) 482 hi))

cross : (v a b c p : ℕ) → a * 8 ≡ b * c → v * a * (2 * (4 * p)) ≡ v * (b * (p * c))
cross v a b c p e = let f : a * 8 * (v * p) ≡ b * c * (v * p) = ap (λ (z : ℕ). z * (v * p)) e in omega arith

nearest_of : (h v R : ℕ) → Around v (4 * 2 ^ h) R → closest (v * 2 ^ 1074) (2 ^ 592 * 2 ^ (h + 485)) ≡ R
nearest_of h v R a =
    let p = pow_pos h in
    closest_same (v * 2 ^ 1074) (2 ^ 592 * 2 ^ (h + 485)) v (2 * (4 * 2 ^ h)) (mul-pos (pow_pos 592) (pow_pos (h + 485))) (omega arith)
    (rw (pow-add 2 h 485) (cross v (2 ^ 1074) (2 ^ 592) (2 ^ 485) (2 ^ h) refl))
    ∙ closest_is v (4 * 2 ^ h) R a.above a.below

units_are : (R k : ℕ) → 0 < R → R < 2 ^ 53 → k ≤ 2045 → units binary64 false R k ≡ odd 53 false R k (low binary64)
unfolding units
units_are R k P h l =
    let g : 53 + k ≤ 2098 = omega arith in
    let t : R * 2 ^ k < 2 ^ 2098 = lt_of_lt_of_le (shl_lt 53 k h) (pow_mono g) in
    ap (λ (b : Bool). cond b (odd 54 false R k (low binary64)) (inf false)) (is_true (ltb (R * 2 ^ k) (2 ^ 2098)) (lt→ltb (R * 2 ^ k) (2 ^ 2098) t))
    ∙ odd-more 53 false R k (low binary64) P h

pub rounded : (h v R : ℕ) → h ≤ 1049 → 2 ^ 52 ≤ R → R < 2 ^ 53 → Around v (4 * 2 ^ h) R
    → round binary64 false v (2 ^ 592) ≡ odd 53 false R (h + 485) (low binary64)
rounded h v R H lo hi a =
    let k : size (v * 2 ^ 1074 / 2 ^ 592) - 53 ≡ h + 485 = ap (λ (z : ℕ). size z - 53) (shift v) ∙ ap (λ (z : ℕ). z - 53) (digits_of h v R a) ∙ omega arith in
    round_is binary64 false v (2 ^ 592)
    ∙ ap (λ (z : ℕ). units binary64 false (closest (v * 2 ^ 1074) (2 ^ 592 * 2 ^ z)) z) k
    ∙ ap (λ (z : ℕ). units binary64 false z (h + 485)) (nearest_of h v R a)
    ∙ units_are R (h + 485) (omega arith) hi (omega arith)

-- ---- the bit pattern that the code makes
pub pack : (n M h q : ℕ) → 2 ^ 52 ≤ M → M ≤ 2 ^ 54 - 2 → h ≤ 1049 → n * 2 ^ 52 ≡ M * (2 ^ h * 2 ^ h) → q * q ≤ M * 2 ^ 54 → M * 2 ^ 54 < (q + 1) * (q + 1)
    → ((h + 485) * 4503599627370496 + (q + 1) / 2 < 0x7ff0_0000_0000_0000) × (of_bits binary64 ((h + 485) * 4503599627370496 + (q + 1) / 2) ≡ root_of n)
unfolding root_of
pack n M h q lo hi H e a b =
    let s = signif M q lo hi a b in
    let z = around n M (2 ^ h) ((q + 1) / 2) (pow_pos h) e lo hi s in (
      omega arith,
      pattern_is (h + 485) ((q + 1) / 2) (omega arith) s.full s.short ∙ sym
          (rounded h (halves (n * 4 ^ 54)) ((q + 1) / 2) H s.full s.short z),
    )

-- ---- `sqrt_of` by the units
pub sqrt_units : (x : Float) (n : ℕ) → 0 < n → HasValue x false n (2 ^ low binary64) → sqrt_of x ≡ root_of n
unfolding sqrt_of
sqrt_units nan n p v = absurd v
sqrt_units (inf s) n p v = absurd v
sqrt_units (fin true m e) n p v = absurd (true≢false v.0)
sqrt_units (fin false zero e) n p v = absurd (let z : n * down e ≡ 0 = sym v.1 ∙ ap (λ (x : ℕ). x * 2 ^ 1074) (zero-mul (up e))
    ∙ zero-mul (2 ^ 1074) in let y : 0 < n * down e = mul-pos p (down_pos e) in omega arith)
sqrt_units (fin false (suc m) e) n p v = ap root_of (ap (λ (z : ℕ). z / down e) v.1 ∙ mul-div_cancel n (down_pos e))

-- of a bit pattern that is read as q * 2 ^ k units
at-odd : (x : Float) (q k : ℕ) → 0 < q → x ≡ odd 53 false q k (low binary64) → sqrt_of x ≡ root_of (q * 2 ^ k)
at-odd x q k p e = rw e (sqrt_units (odd 53 false q k (low binary64)) (q * 2 ^ k) (mul-pos p (pow_pos k)) (odd_sign 53 false q k (low binary64)))

pub sqrt_low : (b : ℕ) → 0 < b → b / 4503599627370496 ≡ 0 → sqrt_of (of_bits binary64 b) ≡ root_of (b % 4503599627370496 * 2 ^ 0)
sqrt_low b p h = at-odd (of_bits binary64 b) (b % 4503599627370496) 0 (omega arith) (low_is b h)

pub sqrt_high : (b : ℕ) → b < 0x7ff0_0000_0000_0000 → (b / 4503599627370496 ≡ 0 → ⊥)
    → sqrt_of (of_bits binary64 b) ≡ root_of ((b % 4503599627370496 + 4503599627370496) * 2 ^ (b / 4503599627370496 - 1))
sqrt_high b p h =
    let q = b % 4503599627370496 + 4503599627370496 in
    let k = b / 4503599627370496 - 1 in
    let e : b ≡ k * 4503599627370496 + q = omega arith in
    at-odd (of_bits binary64 b) q k (omega arith) (ap (of_bits binary64) e ∙ pattern_is k q (omega arith) (omega arith) (omega arith))
