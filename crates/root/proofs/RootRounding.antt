-- The nearest whole number, by the two halves around it; the digits of a number; what a bit pattern is read as.
use Prim.Native.Nat.{ℕ, zero, suc, ◌+◌, ◌*◌, ◌/◌, ◌%◌, ◌^◌, ◌≤◌, ◌<◌, compare, Ordering}
use native.Mathlib.Nat.{lt_of_lt_of_le, lt_of_not-le, lt_irrefl, le_antisymm, div-eq_of_lt-le, div-add-mod'}
use native.Mathlib.Omega.{arith}
use native.Mathlib.Decide.{dec_le}
use mathlib.Core.Path.{◌≡◌, refl, ap, ◌∙◌}
use mathlib.Core.Bool.{Bool, false, not, cond}
use lib.Dec.{T, is_le, compare_is_eq, leb, eqb, leb→le, nleb→lt, eqb→eq, not_T}
use lib.Arith.{lt→nleb}
use lib.Pow.{pow_mono}
use lib.Count.{count_trailing_zeros, under}
use lib.Ieee.{nan, inf, fin, binary64, low, hid, top, minus, size, odd, of_fields, of_bits}
use lib.Ieee.Digits.{size-lt, size-le}
use lib.Ieee.Bits.{is_false, cond_no}
use lib.Ieee.Nearest.{closest}

-- ---- `compare`
compare-lt : (a b : ℕ) → a < b → compare a b ≡ Ordering.lt
compare-lt a b h = go (compare a b) (nleb→lt a b) (eqb→eq a b)
  where
    go : (o : Ordering) → (T (not (is_le o)) → b < a) → (T (compare_is_eq o) → a ≡ b) → o ≡ Ordering.lt
    go Ordering.lt k e = refl
    go Ordering.eq k e = absurd (let z = e tt in omega arith)
    go Ordering.gt k e = absurd (let z = k tt in omega arith)

compare_gt : (a b : ℕ) → b < a → compare a b ≡ Ordering.gt
compare_gt a b h = go (compare a b) (leb→le a b)
  where
    go : (o : Ordering) → (T (is_le o) → a ≤ b) → o ≡ Ordering.gt
    go Ordering.lt k = absurd (let z = k tt in omega arith)
    go Ordering.eq k = absurd (let z = k tt in omega arith)
    go Ordering.gt k = refl

-- ---- the nearest whole number to v / (2 * u)
from-above : (v u R : ℕ) → R * (2 * u) ≤ v → v < R * (2 * u) + u → closest v (2 * u) ≡ R
from-above v u R lo hi =
    let q : v / (2 * u) ≡ R = div-eq_of_lt-le (2 * u) lo (omega arith) in
    let m : R * (2 * u) + v % (2 * u) ≡ v = rw q at (div-add-mod' v (2 * u)) in
    rw (q, compare-lt (v % (2 * u) * 2) (2 * u) (omega arith))

from-below : (v u R : ℕ) → v < suc R * (2 * u) → suc R * (2 * u) < v + u → closest v (2 * u) ≡ suc R
from-below v u R hi lo =
    let q : v / (2 * u) ≡ R = div-eq_of_lt-le (2 * u) (omega arith) (omega arith) in
    let m : R * (2 * u) + v % (2 * u) ≡ v = rw q at (div-add-mod' v (2 * u)) in
    rw (q, compare_gt (v % (2 * u) * 2) (2 * u) (omega arith))

pub closest_is : (v u R : ℕ) → R * (2 * u) < v + u → v < R * (2 * u) + u → closest v (2 * u) ≡ R
closest_is v u R lo hi = go R lo hi (dec_le (R * (2 * u)) v)
  where
    go : (R : ℕ) → R * (2 * u) < v + u → v < R * (2 * u) + u → Dec (R * (2 * u) ≤ v) → closest v (2 * u) ≡ R
    go R lo hi (yes l) = from-above v u R l hi
    go zero lo hi (no f) = absurd (f (omega arith))
    go (suc R) lo hi (no f) = from-below v u R (lt_of_not-le f) lo

-- ---- how many digits a number has
pub size_is : (a n : ℕ) → 2 ^ a ≤ n → n < 2 ^ suc a → size n ≡ suc a
size_is a n lo hi = le_antisymm (size-le n (suc a) hi)
    (lt_of_not-le (λ (g : size n ≤ a). lt_irrefl n (lt_of_lt_of_le (lt_of_lt_of_le (size-lt n) (pow_mono g)) lo)))

-- ---- a larger limit on the digits changes nothing
zeros_more : (d n : ℕ) → 0 < n → n < 2 ^ d → count_trailing_zeros (suc d) n ≡ count_trailing_zeros d n
unfolding count_trailing_zeros
zeros_more zero n p h = omega arith
zeros_more (suc d) n p h = go (n % 2) refl (zeros_more d (n / 2))
  where
    go : (r : ℕ) → n % 2 ≡ r → (0 < n / 2 → n / 2 < 2 ^ d → count_trailing_zeros (suc d) (n / 2) ≡ count_trailing_zeros d (n / 2))
        → under r (count_trailing_zeros (suc d) (n / 2)) ≡ under r (count_trailing_zeros d (n / 2))
    go zero e ih = ap suc (ih (omega arith) (omega arith))
    go (suc r) e ih = refl

pub odd-more : (d : ℕ) (s : Bool) (q k l : ℕ) → 0 < q → q < 2 ^ d → odd (suc d) s q k l ≡ odd d s q k l
unfolding odd
odd-more d s zero k l p h = refl
odd-more d s (suc q) k l p h = ap (λ (t : ℕ). fin s (suc q / 2 ^ t) (minus (k + t) l)) (zeros_more d (suc q) p h)

-- ---- a normal value's bit pattern
fields_are : (x t R : ℕ) → suc x < 2047 → 2 ^ 52 + t ≡ R → of_fields binary64 false (suc x) t ≡ odd 53 false R x (low binary64)
unfolding of_fields
fields_are x t R h e = cond_no (eqb (suc x) 2047) (cond (eqb t 0) (inf false) nan) (odd 53 false (2 ^ 52 + t) x (low binary64))
    (not_T (eqb (suc x) 2047) (λ u. clash (suc x) h (eqb→eq (suc x) 2047 u))) ∙ ap (λ (z : ℕ). odd 53 false z x (low binary64)) e
  where
    clash : (a : ℕ) → a < 2047 → a ≡ 2047 → ⊥
    clash a l z = omega arith

split_is : (x R b : ℕ) → b ≡ x * 4503599627370496 + R → x < 2046 → 2 ^ 52 ≤ R → R < 2 ^ 53
    → (b < 2 ^ 63) × (b % 2 ^ 63 / 2 ^ 52 ≡ suc x) × (2 ^ 52 + b % 2 ^ 52 ≡ R)
split_is x R b e h lo hi = (omega arith, omega arith, omega arith)

pub pattern_is : (x R : ℕ) → x < 2046 → 2 ^ 52 ≤ R → R < 2 ^ 53 → of_bits binary64 (x * 4503599627370496 + R) ≡ odd 53 false R x (low binary64)
unfolding of_bits
pattern_is x R h lo hi =
    let b = x * 4503599627370496 + R in
    let z = split_is x R b refl h lo hi in
    ap (λ (s : Bool). of_fields binary64 s (b % top binary64 / hid binary64) (b % hid binary64))
    (is_false (leb (top binary64) b) (lt→nleb (top binary64) b z.0))
    ∙ ap (λ (y : ℕ). of_fields binary64 false y (b % hid binary64)) z.1
    ∙ fields_are x (b % hid binary64) R (omega arith) z.2

-- a subnormal value's
pub low_is : (b : ℕ) → b / 4503599627370496 ≡ 0 → of_bits binary64 b ≡ odd 53 false (b % 4503599627370496) 0 (low binary64)
unfolding of_bits of_fields
low_is b h =
    let l : b < 2 ^ 63 = omega arith in
    let z : b % 2 ^ 63 / 2 ^ 52 ≡ 0 = omega arith in
    ap (λ (s : Bool). of_fields binary64 s (b % top binary64 / hid binary64) (b % hid binary64)) (is_false (leb (top binary64) b) (lt→nleb (top binary64) b l))
    ∙ ap (λ (y : ℕ). of_fields binary64 false y (b % hid binary64)) z
