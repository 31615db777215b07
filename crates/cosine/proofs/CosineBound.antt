-- The cosine's rule is within 1 / 2 ^ 45 of the exact sums through 2i = 40 and through 2i = 42: the errors of its two sums add up to less,
-- and the cut at 1 does no harm, since the exact sums hardly pass it.
use Prim.Native.Nat.{ℕ, ◌+◌, ◌-◌, ◌*◌, ◌^◌, ◌≤◌, ◌<◌, min}
use mathlib.Core.Path.{◌≡◌, ap}
use mathlib.Core.Bool.{Bool, true, false, not, cond}
use native.Mathlib.Nat.{le_refl, le_trans, le_of_lt, add-le-add, mul-le-mul, mul-le-mul_right, min-le_left, lt_of_le_of_lt, div-mul-le_self, lt-div-mul-add}
use native.Mathlib.Decide.{dec_le}
use native.Mathlib.Omega.{arith}
use lib.Dec.{T, leb, lit<, lit≤, leb→le, nleb→lt}
use Rattle.divisors.specs.Divisors.{divisor}
use Rattle.terms.specs.Terms.{term, sums}
use Rattle.cosine.specs.Cosine.{size, negative, whole, scaled, square}
use Rattle.cosine.specs.Bounds.{under, exact, Within, Close}
use Rattle.terms.proofs.Cosines.{term_grows, zmax}
use Rattle.cosine.proofs.CosineError.{Near, err, errs, errs-plus, errs-minus, wider, term_near, sums_near}
use Rattle.cosine.proofs.CosineRange.{range}
use Rattle.divisors.proofs.Upto.{div_grows}
use Rattle.cosine.proofs.Bits64.{whole_grows}

-- the cut sum, from what the two sums are and where the exact one lies
cut : (p m a b e f u : ℕ) → m ≤ p → e ≤ 62 → f ≤ 62 → Near p a e u → Near m b f u → 2 ^ 51 * a ≤ 2 ^ 51 * b + (2 ^ 51 + 64) * u
    → (Within (min (p - m) (2 ^ 51)) a b u)
cut p m a b e f u l he hf hp hm r = from (p - m) (omega arith)
  where
    from : (x : ℕ) → p ≡ m + x → Within (min x (2 ^ 51)) a b u
    from x ex =
        let w = min x (2 ^ 51) in
        let pu : p * u ≡ m * u + x * u = omega (arith, ap (λ (y : ℕ). y * u) ex) in
        record {
          above = omega (arith, mul-le-mul_right u (min-le_left x (2 ^ 51)), hp.low, hm.high, mul-le-mul_right u hf);
          below = either (dec_le x (2 ^ 51)) pu;
        }
      where
        either : Dec (x ≤ 2 ^ 51) → p * u ≡ m * u + x * u → 2 ^ 51 * a ≤ min x (2 ^ 51) * u + 2 ^ 51 * b + 64 * u
        either (yes g) pu =
            let k : x ≤ min x (2 ^ 51) = omega arith in
            omega (arith, mul-le-mul_right u k, hp.high, hm.low, mul-le-mul_right u he)
        either (no g) pu =
            let k : 2 ^ 51 ≤ min x (2 ^ 51) = omega arith in
            omega (arith, mul-le-mul_right u k, r)

-- either way round
signed : (p m a b e f u : ℕ) → e ≤ 62 → f ≤ 62 → Near p a e u → Near m b f u → 2 ^ 51 * a ≤ 2 ^ 51 * b + (2 ^ 51 + 64) * u
    → 2 ^ 51 * b ≤ 2 ^ 51 * a + (2 ^ 51 + 64) * u
    → Close (not (leb m p)) (cond (leb m p) (min (p - m) (2 ^ 51)) (min (m - p) (2 ^ 51))) a b u
signed p m a b e f u he hf hp hm r s = go (leb m p) (leb→le m p) (nleb→lt m p)
  where
    go : (t : Bool) → (T t → m ≤ p) → (T (not t) → p < m) → Close (not t) (cond t (min (p - m) (2 ^ 51)) (min (m - p) (2 ^ 51))) a b u
    go true y n = cut p m a b e f u (y tt) he hf hp hm r
    go false y n = cut m p b a f e u (le_of_lt (n tt)) hf he hm hp s

-- the term past the last: less than a unit, and its error
past : (z : ℕ) → z ≤ zmax → term z 21 + err 21 ≤ 2
unfolding term err
past z h = le_trans (add-le-add (term_grows h 21) (le_refl (err 21))) (lit≤ tt)

module _ (n d z : ℕ) (lo : z * d ≤ 2 ^ 58 * n) (hi : 2 ^ 58 * n ≤ (z + 3) * d) (zle : z + 3 ≤ zmax) where
  small : n ≤ 40 * d
  small = omega (arith, hi, mul-le-mul_right d zle)

  pub through_40 : Close (negative z) (size z) (exact n d 20).0 (exact n d 20).1 (under d 20)
  through_40 =
      let near = sums_near n d z lo hi zle 20 (lit< tt) in
      let r = range n d small in
      signed (sums z 20).0 (sums z 20).1 (exact n d 20).0 (exact n d 20).1 (errs 20).0 (errs 20).1 (under d 20)
      (omega (arith, errs-plus)) (omega (arith, errs-minus)) near.0 near.1 (omega (arith, r.0)) (omega (arith, r.1))

  pub through_42 : Close (negative z) (size z) (exact n d 21).1 (exact n d 21).0 (under d 21)
  unfolding exact under
  through_42 =
      let near = sums_near n d z lo hi zle 20 (lit< tt) in
      let r = range n d small in
      let w = d * divisor 20 in
      let a = (exact n d 20).0 in
      let b = (exact n d 20).1 in
      let u = under d 20 in
      let last = term_near n d z lo hi zle 21 (lit< tt) in
      let little : 2 ^ 51 * n ^ 21 ≤ 2 * (u * w) = le_trans last.high (mul-le-mul_right (u * w) (past z (omega arith))) in
      signed (sums z 20).0 (sums z 20).1 (a * w) (b * w + n ^ 21) (errs 20).0 ((errs 20).1 + 2) (u * w)
      (omega (arith, errs-plus)) (omega (arith, errs-minus))
      (wider (sums z 20).0 a (errs 20).0 u w near.0)
      (add (sums z 20).1 (b * w) (errs 20).1 (n ^ 21) (u * w) (wider (sums z 20).1 b (errs 20).1 u w near.1) little)
      (up a b u w (n ^ 21) r.0)
      (down a b u w (n ^ 21) r.1 little)
    where
      add : (m x f y u : ℕ) → Near m x f u → 2 ^ 51 * y ≤ 2 * u → Near m (x + y) (f + 2) u
      add m x f y u h g = record { low = omega (arith, h.low); high = omega (arith, h.high) }

      up : (a b u w y : ℕ) → 2 ^ 47 * a ≤ 2 ^ 47 * b + (2 ^ 47 + 1) * u → 2 ^ 51 * (a * w) ≤ 2 ^ 51 * (b * w + y) + (2 ^ 51 + 64) * (u * w)
      up a b u w y h = omega (arith, mul-le-mul_right w h)

      down : (a b u w y : ℕ) → 2 ^ 47 * b ≤ 2 ^ 47 * a + (2 ^ 47 + 1) * u → 2 ^ 51 * y ≤ 2 * (u * w)
          → 2 ^ 51 * (b * w + y) ≤ 2 ^ 51 * (a * w) + (2 ^ 51 + 64) * (u * w)
      down a b u w y h g = omega (arith, mul-le-mul_right w h)

-- z is 2 ^ 58 times the square of x / (c * 2 ^ 61), rounded down, or 3 short at most
below-square : (x c t z : ℕ) → t * c ≤ x → z * 2 ^ 64 ≤ t * t → z * (c * 2 ^ 61 * (c * 2 ^ 61)) ≤ 2 ^ 58 * (x * x)
below-square x c t z ht hz = omega (arith, mul-le-mul ht ht, mul-le-mul_right (c * c) hz)

above-square : (x c t z : ℕ) → x < t * c + c → t * t < z * 2 ^ 64 + 2 ^ 64 → t < 2 ^ 64 → 2 ^ 58 * (x * x) ≤ (z + 3) * (c * 2 ^ 61 * (c * 2 ^ 61))
above-square x c t z ht hz small =
    let one : x ≤ (t + 1) * c = omega arith in
    let two : (t + 1) * (t + 1) ≤ (z + 3) * 2 ^ 64 = omega arith in
    omega (arith, mul-le-mul one one, mul-le-mul_right (c * c) two)

-- the bits of TAU
abbrev pub tau-bits : ℕ
tau-bits = 0x401921FB54442D18

module _ (b : ℕ) (h : b ≤ tau-bits) where
  scaled-le : scaled b ≤ scaled tau-bits
  scaled-le = div_grows (2 ^ 1014) (lit< tt) (whole_grows b tau-bits h)

  scaled-lt : scaled b < 2 ^ 64
  scaled-lt = lt_of_le_of_lt scaled-le (lit< tt)

  pub square_le : square b + 3 ≤ zmax
  square_le = le_trans (add-le-add (div_grows (2 ^ 64) (lit< tt) (mul-le-mul scaled-le scaled-le)) (le_refl 3)) (lit≤ tt)

  lo : square b * (2 ^ 1075 * 2 ^ 1075) ≤ 2 ^ 58 * (whole b * whole b)
  lo = below-square (whole b) (2 ^ 1014) (scaled b) (square b) (div-mul-le_self (whole b) (2 ^ 1014)) (div-mul-le_self (scaled b * scaled b) (2 ^ 64))

  hi : 2 ^ 58 * (whole b * whole b) ≤ (square b + 3) * (2 ^ 1075 * 2 ^ 1075)
  hi = above-square (whole b) (2 ^ 1014) (scaled b) (square b) (lt-div-mul-add (lit< tt)) (lt-div-mul-add (lit< tt)) scaled-lt

  -- the rule at any double up to TAU, against the exact sums at t * t = whole b ^ 2 / 2 ^ 2150
  pub cosine_40 : Close (negative (square b)) (size (square b)) (exact (whole b * whole b) (2 ^ 2150) 20).0
      (exact (whole b * whole b) (2 ^ 2150) 20).1 (under (2 ^ 2150) 20)
  cosine_40 = through_40 (whole b * whole b) (2 ^ 2150) (square b) lo hi square_le

  pub cosine_42 : Close (negative (square b)) (size (square b)) (exact (whole b * whole b) (2 ^ 2150) 21).1
      (exact (whole b * whole b) (2 ^ 2150) 21).0 (under (2 ^ 2150) 21)
  cosine_42 = through_42 (whole b * whole b) (2 ^ 2150) (square b) lo hi square_le
