-- The doubles that the rules give have the values that the bounds speak of: each last quotient is exact.
-- And the bits of u and of t lie where the rules ask: bits grow with the size of the double, and the ends are computed.
use Rattle.std.proofs.Common.{◌≡◌, ℕ, suc, ◌+◌, ◌-◌, ◌*◌, ◌/◌, ◌%◌, ◌^◌, ◌<◌, ◌≤◌, min, Bool, true, false, cond, not, T, eqb, leb, ℤ, pos, sym, refl, ap, ◌∙◌, subst, le_trans, le_refl, lt_of_lt_of_le, lt_of_le_of_lt, le_of_lt, add-le-add, mul-le-mul_right, mod-eq_of_lt, mul_assoc, mul-pos, pow-suc, lt_of_not-le, le-div_iff_mul-le, zero-add, arith, lit<, lit≤, eqb→eq, pow_pos, pow_mono, pow-add, shl_lt, ne_eqb}
use native.Mathlib.Nat.{min-le_right}
use native.Mathlib.Decide.{dec_le}
use lib.Ieee.{Float, nan, inf, fin, binary64, up, down, neg, div, mul, of_int, round, to_bits, of_bits, of_fields, odd, fits, le}
use lib.Ieee as ieee
use lib.Ieee.Digits.{size-lt, size-le, size_reaches}
use lib.Ieee.Bits.{of_bits-to_bits}
use borrow.Author.Tests.{lt-leb}
use lib.Ieee.Nearest.{div_mono}
use lib.Ieee.Positive.{positive, le→cross, between, mul_mono}
use lib.Ieee.Exact.{HasValue, round_exact, odd_sign}
use lib.Ieee.Scale.{round_same}
use lib.Ieee.Back.{round_whole}
use lib.Ieee.Fits.{down_pos, kept-lt}
use Rattle.terms.specs.Terms.{sums}
use Rattle.cosine.specs.Cosine.{size, negative, square, unit_of, signed, cosine_of, whole, tau}
use Rattle.logarithm.specs.Logarithm.{depth, lowered, logarithm_of, odd_sum, ratio}
use Rattle.draw.specs.Drawn.{least, one, Drawn}
use Rattle.divisors.proofs.Upto.{div_grows}

-- w / 2 ^ c over 2 ^ k is a double, for a w of 53 bits
pub over-power : (c k w : ℕ) (x : Float) → c + k ≤ 1074 → w < 2 ^ 53 → HasValue x false w (2 ^ c)
    → HasValue (div binary64 x (fin false 1 (pos k))) false w (2 ^ (c + k))
unfolding div
over-power c k w nan hk hw v = absurd v
over-power c k w (inf t) hk hw v = absurd v
over-power c k w (fin t m e) hk hw v =
    rw v.0
    (subst (λ (x : Float). HasValue x false w (2 ^ (c + k)))
    (sym (round_same binary64 false (m * up e * 1) (1 * 2 ^ k * down e) w (2 ^ (c + k)) (mul-pos (mul-pos (lit< tt) (pow_pos k)) (down_pos e)) (pow_pos (c + k))
    (rw (pow-add 2 c k) (cross (m * up e) (down e) w (2 ^ c) (2 ^ k) v.1)))) exact)
  where
    cross : (x d w p q : ℕ) → x * p ≡ w * d → x * 1 * (p * q) ≡ w * (1 * q * d)
    cross x d w p q h = let g = ap (λ (z : ℕ). z * q) h in omega arith

    spread : (n k : ℕ) → k ≤ n → 2 ^ n ≡ 2 ^ (n - k) * 2 ^ k
    spread n k h = let e : n ≡ (n - k) + k = omega arith in ap (λ (x : ℕ). 2 ^ x) e ∙ pow-add 2 (n - k) k

    exact : HasValue (round binary64 false w (2 ^ (c + k))) false w (2 ^ (c + k))
    exact =
        round_exact binary64 false w (2 ^ (c + k)) w (1074 - (c + k)) (pow_pos (c + k)) hw
        (lt_of_lt_of_le (shl_lt 53 (1074 - (c + k)) hw) (pow_mono {i = 53 + (1074 - (c + k))} {j = 1074 + 1024} (omega arith)))
        (ap (λ (x : ℕ). w * x) (spread 1074 (c + k) hk) ∙ sym (mul_assoc w (2 ^ (1074 - (c + k))) (2 ^ (c + k))))

-- a whole number of 53 bits, over 2 ^ k
pub quotient_value : (k w : ℕ) → k ≤ 1074 → w < 2 ^ 53 → HasValue (div binary64 (of_int binary64 (pos w)) (fin false 1 (pos k))) false w (2 ^ k)
unfolding of_int
quotient_value k w hk hw =
    subst (λ (z : ℕ). HasValue (div binary64 (of_int binary64 (pos w)) (fin false 1 (pos k))) false w (2 ^ z)) (zero-add k)
    (over-power 0 k w (round binary64 false w 1) (rw (zero-add k) hk) hw (round_whole binary64 false w (le_of_lt hw)))

neg_value : (x : Float) (s : Bool) (a c : ℕ) → HasValue x s a c → HasValue (neg x) (not s) a c
unfolding neg
neg_value nan s a c v = v
neg_value (inf t) s a c v = v
neg_value (fin t m e) s a c v = (ap not v.0, v.1)

-- ---- the cosine: ±size / 2 ^ 51, and so within [-1, 1]

pub size-le-one : (z : ℕ) → size z ≤ 2 ^ 51
size-le-one z = go (leb (sums z 20).1 (sums z 20).0)
  where
    go : (t : Bool) → cond t (min ((sums z 20).0 - (sums z 20).1) (2 ^ 51)) (min ((sums z 20).1 - (sums z 20).0) (2 ^ 51)) ≤ 2 ^ 51
    go true = min-le_right ((sums z 20).0 - (sums z 20).1) (2 ^ 51)
    go false = min-le_right ((sums z 20).1 - (sums z 20).0) (2 ^ 51)

pub cosine_value : (b : ℕ) → HasValue (cosine_of b) (negative (square b)) (size (square b)) (2 ^ 51)
unfolding cosine_of
cosine_value b = go (negative (square b))
  where
    v : HasValue (unit_of (size (square b))) false (size (square b)) (2 ^ 51)
    v = quotient_value 51 (size (square b)) (lit≤ tt) (lt_of_le_of_lt (size-le-one (square b)) (lit< tt))

    go : (s : Bool) → HasValue (signed s (unit_of (size (square b)))) s (size (square b)) (2 ^ 51)
    go false = v
    go true = neg_value (unit_of (size (square b))) false (size (square b)) (2 ^ 51) v

-- ---- the logarithm: +0, or -depth / 2 ^ 47

pub logarithm_value : (b : ℕ) → depth b < 2 ^ 53 → HasValue (logarithm_of b) (not (eqb (depth b) 0)) (depth b) (2 ^ 47)
unfolding logarithm_of
logarithm_value b h = go (eqb (depth b) 0) (eqb→eq (depth b) 0)
  where
    go : (t : Bool) → (T t → depth b ≡ 0) → HasValue (lowered t (depth b)) (not t) (depth b) (2 ^ 47)
    go true e = (refl, rw (e tt))
    go false e =
        neg_value (div binary64 (of_int binary64 (pos (depth b))) (fin false 1 (pos 47))) false (depth b) (2 ^ 47) (quotient_value 47 (depth b) (lit≤ tt) h)

-- at u = 1 it is +0
pub logarithm_of-one : logarithm_of (1023 * 2 ^ 52) ≡ fin false 0 (pos 0)
unfolding logarithm_of depth odd_sum ratio
logarithm_of-one = refl

-- ---- bits and order

pattern : ℕ → ℕ
pattern n = (ieee.size n - 53) * 2 ^ 52 + n / 2 ^ (ieee.size n - 53)

pattern_grows : (n m : ℕ) → n ≤ m → pattern n ≤ pattern m
unfolding pattern
pattern_grows n m h = either (dec_le (ieee.size m - 53) (ieee.size n - 53))
  where
    sizes : ieee.size n ≤ ieee.size m
    sizes = size-le n (ieee.size m) (lt_of_le_of_lt h (size-lt m))

    either : Dec (ieee.size m - 53 ≤ ieee.size n - 53) → let j = ieee.size n - 53 in let k = ieee.size m - 53 in
        j * 2 ^ 52 + n / 2 ^ j ≤ k * 2 ^ 52 + m / 2 ^ k
    either (yes l) =
        let e : ieee.size n - 53 ≡ ieee.size m - 53 = omega (arith, sizes) in
        rw e (add-le-add (le_refl ((ieee.size m - 53) * 2 ^ 52)) (div_grows (2 ^ (ieee.size m - 53)) (pow_pos (ieee.size m - 53)) h))
    either (no l) =
        let g : ieee.size n - 53 < ieee.size m - 53 = lt_of_not-le l in
        let upper : n / 2 ^ (ieee.size n - 53) < 2 ^ 53 = kept-lt 53 n in
        let reach : 2 ^ (52 + (ieee.size m - 53)) ≤ m = size_reaches m (52 + (ieee.size m - 53)) (omega arith) in
        let lower : 2 ^ 52 ≤ m / 2 ^ (ieee.size m - 53) = (le-div_iff_mul-le (pow_pos (ieee.size m - 53))).1 (rw (pow-add 2 52 (ieee.size m - 53)) at reach) in
        omega arith

is : (m : ℕ) (e : ℤ) → to_bits binary64 (fin false m e) ≡ pattern (m * up e * 2 ^ 1074 / down e)
unfolding to_bits pattern
is m e =
    let k = ieee.size (m * up e * 2 ^ 1074 / down e) - 53 in
    rw (zero-add (k * 2 ^ 52))

pub bits_grow : (x y : Float) → T (positive x) → T (positive y) → T (le x y) → to_bits binary64 x ≤ to_bits binary64 y
bits_grow nan y p q h = absurd p
bits_grow (inf s) y p q h = absurd p
bits_grow (fin true m e) y p q h = absurd p
bits_grow (fin false m e) nan p q h = absurd q
bits_grow (fin false m e) (inf s) p q h = absurd q
bits_grow (fin false m e) (fin true n d) p q h = absurd q
bits_grow (fin false m e) (fin false n d) p q h =
    rw (is m e, is n d)
    (pattern_grows (m * up e * 2 ^ 1074 / down e) (n * up d * 2 ^ 1074 / down d)
    (div_mono (m * up e * 2 ^ 1074) (down e) (n * up d * 2 ^ 1074) (down d) (down_pos e) (down_pos d)
    (crossed (m * up e) (down e) (n * up d) (down d) (2 ^ 1074) (le→cross (fin false m e) (fin false n d) p q h))))
  where
    crossed : (a b c d k : ℕ) → a * d ≤ c * b → a * k * d ≤ c * k * b
    crossed a b c d k h = omega (arith, mul-le-mul_right k h)

-- ---- the draws: u from 2 ^ -54 up and at most 1, and t = TAU * u, rounded

-- u is what the logarithm asks
pub draw-bits : {u : Float} → Drawn u → (969 * 2 ^ 52 ≤ to_bits binary64 u) × (to_bits binary64 u ≤ 1023 * 2 ^ 52)
unfolding to_bits
draw-bits {u} d =
    let p = between least u one tt tt d.from d.upto in
    (le_trans ends.0 (bits_grow least u tt p d.from), le_trans (bits_grow u one p tt d.upto) ends.1)
  where
    ends : (969 * 2 ^ 52 ≤ to_bits binary64 least) × (to_bits binary64 one ≤ 1023 * 2 ^ 52)
    ends = (lit≤ tt, lit≤ tt)

-- and t is what the cosine asks
pub angle_bits : {u : Float} → Drawn u
    → (952 * 2 ^ 52 ≤ to_bits binary64 (mul binary64 tau u)) × (to_bits binary64 (mul binary64 tau u) ≤ 0x401921FB54442D18)
unfolding to_bits of_bits mul le
angle_bits {u} d =
    let p = between least u one tt tt d.from d.upto in
    let low : T (le (mul binary64 tau least) (mul binary64 tau u)) = mul_mono binary64 tau tau least u tt tt tt p tt d.from in
    let high : T (le (mul binary64 tau u) (mul binary64 tau one)) = mul_mono binary64 tau tau u one tt tt p tt tt d.upto in
    let q = between (mul binary64 tau least) (mul binary64 tau u) (mul binary64 tau one) tt tt low high in (
      le_trans ends.0 (bits_grow (mul binary64 tau least) (mul binary64 tau u) tt q low),
      le_trans (bits_grow (mul binary64 tau u) (mul binary64 tau one) q tt high) ends.1,
    )
  where
    ends : (952 * 2 ^ 52 ≤ to_bits binary64 (mul binary64 tau least)) × (to_bits binary64 (mul binary64 tau one) ≤ 0x401921FB54442D18)
    ends = (lit≤ tt, lit≤ tt)

-- ---- the value of a double by its bits

-- the same fraction, by k above and below
pub spread_value : (k : ℕ) (x : Float) (s : Bool) (a c : ℕ) → HasValue x s a c → HasValue x s (a * k) (c * k)
spread_value k nan s a c v = v
spread_value k (inf t) s a c v = v
spread_value k (fin t m e) s a c v = (v.0, spread (m * up e) a c (down e) k v.1)
  where
    spread : (x a c d k : ℕ) → x * c ≡ a * d → x * (c * k) ≡ a * k * d
    spread x a c d k h = let g = ap (λ (z : ℕ). z * k) h in omega arith

fields_value : (x r : ℕ) → suc x < 2047 → HasValue (of_fields binary64 false (suc x) r) false ((r + 2 ^ 52) * 2 ^ suc x) (2 ^ 1075)
unfolding of_fields
fields_value x r h =
    rw (ne_eqb (suc x) 2047 (λ (e : suc x ≡ 2047). (omega arith)))
    (subst (λ (a : ℕ). HasValue (odd 53 false (2 ^ 52 + r) x 1074) false a (2 ^ 1075)) (regroup r (2 ^ 52) x)
    (spread_value 2 (odd 53 false (2 ^ 52 + r) x 1074) false ((2 ^ 52 + r) * 2 ^ x) (2 ^ 1074) (odd_sign 53 false (2 ^ 52 + r) x 1074)))
  where
    regroup : (r k x : ℕ) → (k + r) * 2 ^ x * 2 ≡ (r + k) * 2 ^ suc x
    regroup r k x = rw (pow-suc 2 x) (omega arith)

at : (b : ℕ) → 2 ^ 52 ≤ b → b < 2047 * 2 ^ 52 → HasValue (of_bits binary64 b) false (whole b) (2 ^ 1075)
unfolding of_bits
at b lo hi =
    let below : b < 2 ^ 63 = omega arith in
    let e : b / 2 ^ 52 ≡ suc (b / 2 ^ 52 - 1) = omega arith in
    rw (lt-leb (2 ^ 63) b below, mod-eq_of_lt below, e) (fields_value (b / 2 ^ 52 - 1) (b % 2 ^ 52) (omega arith))

pub bits_value : (t : Float) → T (fits binary64 t) → 2 ^ 52 ≤ to_bits binary64 t → to_bits binary64 t < 2047 * 2 ^ 52
    → HasValue t false (whole (to_bits binary64 t)) (2 ^ 1075)
bits_value t f lo hi = subst (λ (x : Float). HasValue x false (whole (to_bits binary64 t)) (2 ^ 1075)) (of_bits-to_bits binary64 t f)
    (at (to_bits binary64 t) lo hi)
