-- The exact sum of the cosine's series lies within 1 / 2 ^ 47 of [-1, 1]: the squares of the cosine's and the sine's polynomials add up to 1,
-- but for coefficients past the twentieth, which are small. The coefficients are computed.
use Prim.Native.Nat.{ℕ, zero, suc, ◌+◌, ◌-◌, ◌*◌, ◌^◌, ◌≤◌, ◌<◌}
use mathlib.Core.Path.{◌≡◌, refl, sym, ap, ◌∙◌, subst}
use mathlib.Core.List.{List, [], ◌∷◌}
use native.Mathlib.Nat.{mul-le-mul, mul-le-mul_left, mul-le-mul_right, pow-zero, pow-suc, pow-le-pow_left, lt_of_not-le, le_of_lt, le_dest}
use native.Mathlib.Nat.{add-zero, add-suc, suc-add, suc-sub-suc}
use native.Mathlib.Decide.{dec_le}
use native.Mathlib.Omega.{arith}
use lib.Dec.{lit≤}
use lib.ListN.{length}
use lib.Pow.{pow-add}
use Rattle.divisors.specs.Divisors.{divisor}
use Rattle.cosine.specs.Bounds.{under, exact}
use Rattle.divisors.proofs.Both.{mul_pow}
use Rattle.cosine.proofs.Poly.{dot, scale, plus, less, times, dot-scale, dot-plus, dot-less, dot_grows, dot-times}

-- ---- the weights: n ^ (k - i) * d ^ i, the highest power first

abbrev wt : ℕ → ℕ → ℕ → ℕ → ℕ
wt n d k i = n ^ (k - i) * d ^ i

wt_step : (n d k i : ℕ) → wt n d (suc k) (suc i) ≡ d * wt n d k i
wt_step n d k i = rw (suc-sub-suc k i, pow-suc d i) (omega arith)

shift : (n d k i : ℕ) (p : List ℕ) → dot (wt n d (suc k)) (suc i) p ≡ d * dot (wt n d k) i p
unfolding dot
shift n d k i [] = omega arith
shift n d k i (c ∷ p) = omega (arith, ap (λ (x : ℕ). c * x) (wt_step n d k i), shift n d k (suc i) p)

wt_lift : (n d k i : ℕ) → i < suc k → wt n d (suc (suc k)) (suc i) ≡ n * d * wt n d k i
wt_lift n d k i l =
    let e : suc k - i ≡ suc (k - i) = omega arith in
    rw (suc-sub-suc (suc k) i, e, pow-suc n (k - i), pow-suc d i) (omega arith)

lift : (n d k i : ℕ) (p : List ℕ) → i + length p ≤ suc k → dot (wt n d (suc (suc k))) (suc i) p ≡ n * d * dot (wt n d k) i p
unfolding dot
lift n d k i [] l = omega arith
lift n d k i (c ∷ p) l =
    omega (arith, ap (λ (x : ℕ). c * x) (wt_lift n d k i (omega arith)), lift n d k (suc i) p (omega arith))

wt-times : (n d k : ℕ) (i j : ℕ) → i < suc k → j < suc k → wt n d k i * wt n d k j ≡ wt n d (k + k) (i + j)
wt-times n d k i j hi hj =
    let e : k + k - (i + j) ≡ (k - i) + (k - j) = omega arith in
    rw (e, pow-add n (k - i) (k - j), pow-add d i j) (omega arith)

wt_grows : (n d k : ℕ) → n ≤ 40 * d → (j : ℕ) → j < suc k → wt n d k j ≤ 40 ^ (k - j) * d ^ k
wt_grows n d k h j l =
    let e : k ≡ (k - j) + j = omega arith in
    let one : n ^ (k - j) ≤ 40 ^ (k - j) * d ^ (k - j) = subst (λ (x : ℕ). n ^ (k - j) ≤ x) (mul_pow 40 d (k - j)) (pow-le-pow_left h (k - j)) in
    let two : d ^ k ≡ d ^ (k - j) * d ^ j = ap (λ (x : ℕ). d ^ x) e ∙ pow-add d (k - j) j in
    omega (arith, mul-le-mul_right (d ^ j) one, ap (λ (x : ℕ). 40 ^ (k - j) * x) two)

-- ---- the coefficients

unfoldable coefs : (ℕ → ℕ) → ℕ → List ℕ × List ℕ
unfolding scale
coefs g zero = (1 ∷ [], 0 ∷ [])
coefs g (suc k) = (1 ∷ scale (g k) (coefs g k).1, 0 ∷ scale (g k) (coefs g k).0)

exact-dot : (n d k : ℕ) → ((exact n d k).0 ≡ dot (wt n d k) 0 (coefs divisor k).0) × ((exact n d k).1 ≡ dot (wt n d k) 0 (coefs divisor k).1)
unfolding exact coefs dot
exact-dot n d zero = (rw (pow-zero n, pow-zero d), rw (pow-zero n, pow-zero d))
exact-dot n d (suc k) = (
  rw (pow-zero d, shift n d k 0 (scale (divisor k) (coefs divisor k).1), dot-scale (wt n d k) 0 (divisor k) (coefs divisor k).1)
      (join (exact n d k).1 (dot (wt n d k) 0 (coefs divisor k).1) d (divisor k) (n ^ suc k) (n ^ (suc k - 0))
      (ap (λ (x : ℕ). n ^ x) (zeroth k)) (exact-dot n d k).1),
  rw (pow-zero d, shift n d k 0 (scale (divisor k) (coefs divisor k).0), dot-scale (wt n d k) 0 (divisor k) (coefs divisor k).0)
      (join' (exact n d k).0 (dot (wt n d k) 0 (coefs divisor k).0) d (divisor k) (n ^ (suc k - 0)) (exact-dot n d k).0),
)
  where
    zeroth : (k : ℕ) → suc k ≡ suc k - 0
    zeroth k = omega arith

    join : (x y d g N M : ℕ) → N ≡ M → x ≡ y → x * (d * g) + N ≡ 1 * (M * 1) + d * (g * y)
    join x y d g N M e h = omega (arith, ap (λ (x : ℕ). x * (d * g)) h)

    join' : (x y d g M : ℕ) → x ≡ y → x * (d * g) ≡ 0 * (M * 1) + d * (g * y)
    join' x y d g M h = omega (arith, ap (λ (x : ℕ). x * (d * g)) h)

-- the lists: the cosine's, plus and minus, and the sine's, each over 40!
sine_divisor : ℕ → ℕ
sine_divisor k = (2 * k + 2) * (2 * k + 3)

unfoldable cos_p : List ℕ
cos_p = (coefs divisor 20).0

unfoldable cos_m : List ℕ
cos_m = (coefs divisor 20).1

unfoldable sin_p : List ℕ
unfolding scale
sin_p = scale 40 (coefs sine_divisor 19).0

unfoldable sin_m : List ℕ
unfolding scale
sin_m = scale 40 (coefs sine_divisor 19).1

-- c at the end of k zeros
unfoldable last : ℕ → ℕ → List ℕ
last zero c = c ∷ []
last (suc k) c = 0 ∷ last k c

last-dot : (w : ℕ → ℕ) (i k c : ℕ) → dot w i (last k c) ≡ c * w (i + k)
unfolding dot last
last-dot w i zero c = rw (add-zero i) (omega arith)
last-dot w i (suc k) c = rw (add-suc i k) (omega (arith, last-dot w (suc i) k c, ap (λ (x : ℕ). c * w x) (suc-add i k)))

factorial : ℕ
factorial = 815915283247897734345611269596115894272000000000

unfoldable left : List ℕ
unfolding plus
left = plus (plus (times cos_p cos_p) (times cos_m cos_m)) (0 ∷ plus (times sin_p sin_p) (times sin_m sin_m))

unfoldable right : List ℕ
unfolding plus scale last
right = plus (plus (scale 2 (times cos_p cos_m)) (0 ∷ scale 2 (times sin_p sin_m))) (last 40 (factorial * factorial))

unfoldable over : List ℕ
unfolding less
over = less left right

-- what is over, at 40 for t * t
unfoldable excess : ℕ
unfolding dot
excess = dot (λ (i : ℕ). 40 ^ (40 - i)) 0 over

excess_small : 2 ^ 94 * (factorial * factorial + excess) ≤ (2 ^ 47 + 1) * (2 ^ 47 + 1) * (factorial * factorial)
unfolding excess over left right dot less plus scale last times cos_p cos_m sin_p sin_m coefs sine_divisor factorial
excess_small = lit≤ tt

over-length : 0 + length over ≤ 41
unfolding over left right dot less plus scale last times cos_p cos_m sin_p sin_m coefs sine_divisor factorial
over-length = lit≤ tt

cos_p-length : 0 + length cos_p ≤ 21
unfolding cos_p coefs scale
cos_p-length = lit≤ tt

cos_m-length : 0 + length cos_m ≤ 21
unfolding cos_m coefs scale
cos_m-length = lit≤ tt

sin_p-length : 0 + length sin_p ≤ 20
unfolding sin_p coefs scale
sin_p-length = lit≤ tt

sin_m-length : 0 + length sin_m ≤ 20
unfolding sin_m coefs scale
sin_m-length = lit≤ tt

xx_length : 0 + length (times sin_p sin_p) ≤ 39
unfolding times plus scale sin_p coefs sine_divisor
xx_length = lit≤ tt

yy_length : 0 + length (times sin_m sin_m) ≤ 39
unfolding times plus scale sin_m coefs sine_divisor
yy_length = lit≤ tt

xy_length : 0 + length (times sin_p sin_m) ≤ 39
unfolding times plus scale sin_p sin_m coefs sine_divisor
xy_length = lit≤ tt

-- ---- the algebra of squares

twice-product : (x y : ℕ) → 2 * (x * y) ≤ x * x + y * y
twice-product x y = either (dec_le x y)
  where
    at : (x k : ℕ) → 2 * (x * (x + k)) ≤ x * x + (x + k) * (x + k)
    at x k = omega arith

    ordered : (x y : ℕ) → x ≤ y → 2 * (x * y) ≤ x * x + y * y
    ordered x y h = subst (λ (z : ℕ). 2 * (x * z) ≤ x * x + z * z) (le_dest h).1 (at x (le_dest h).0)

    either : Dec (x ≤ y) → 2 * (x * y) ≤ x * x + y * y
    either (yes h) = ordered x y h
    either (no f) = omega (arith, ordered y x (le_of_lt (lt_of_not-le f)))

root_le : (p q : ℕ) → p * p ≤ q * q → p ≤ q
root_le p q h = either (dec_le p q)
  where
    either : Dec (p ≤ q) → p ≤ q
    either (yes l) = l
    either (no f) = let g : q < p = lt_of_not-le f in omega (arith, mul-le-mul g g)

-- a is at most b and (2 ^ 47 + 1) / 2 ^ 47 of U, where the square of their difference is
root_bound : (a b U D c r : ℕ) → U * U ≡ c * D → a * a + b * b ≤ 2 * (a * b) + (c + r) * D → 2 ^ 94 * (c + r) ≤ (2 ^ 47 + 1) * (2 ^ 47 + 1) * c
    → 2 ^ 47 * a ≤ 2 ^ 47 * b + (2 ^ 47 + 1) * U
root_bound a b U D c r e h s = either (dec_le b a)
  where
    from : (b x : ℕ) → (b + x) * (b + x) + b * b ≤ 2 * ((b + x) * b) + (c + r) * D → 2 ^ 47 * (b + x) ≤ 2 ^ 47 * b + (2 ^ 47 + 1) * U
    from b x k =
        let sq : x * x ≤ (c + r) * D = omega arith in
        let big : (2 ^ 47 * x) * (2 ^ 47 * x) ≤ ((2 ^ 47 + 1) * U) * ((2 ^ 47 + 1) * U) = omega (arith, mul-le-mul_right D s) in
        let small : 2 ^ 47 * x ≤ (2 ^ 47 + 1) * U = root_le (2 ^ 47 * x) ((2 ^ 47 + 1) * U) big in
        omega arith

    either : Dec (b ≤ a) → 2 ^ 47 * a ≤ 2 ^ 47 * b + (2 ^ 47 + 1) * U
    either (yes l) =
        subst (λ (z : ℕ). 2 ^ 47 * z ≤ 2 ^ 47 * b + (2 ^ 47 + 1) * U) (le_dest l).1
        (from b (le_dest l).0 (subst (λ (z : ℕ). z * z + b * b ≤ 2 * (z * b) + (c + r) * D) (sym (le_dest l).1) h))
    either (no f) = let g : a < b = lt_of_not-le f in omega arith

-- ---- the denominator

unfoldable fac : ℕ → ℕ
fac zero = 1
fac (suc k) = fac k * divisor k

under_is : (d k : ℕ) → under d k ≡ fac k * d ^ k
unfolding under fac
under_is d zero = rw (pow-zero d)
under_is d (suc k) = rw (pow-suc d k) (go (under d k) (fac k) (d ^ k) d (divisor k) (under_is d k))
  where
    go : (u f p d g : ℕ) → u ≡ f * p → u * (d * g) ≡ f * g * (p * d)
    go u f p d g h = omega (arith, ap (λ (x : ℕ). x * (d * g)) h)

fac_20 : fac 20 ≡ factorial
unfolding fac factorial
fac_20 = refl

under_squared : (d : ℕ) → under d 20 * under d 20 ≡ factorial * factorial * d ^ 40
under_squared d = rw (under_is d 20, fac_20, pow-add d 20 20) (omega arith)

-- ---- the squares add up

module _ (n d : ℕ) where
  product : (p q : List ℕ) → 0 + length p ≤ 21 → 0 + length q ≤ 21 → dot (wt n d 20) 0 p * dot (wt n d 20) 0 q ≡ dot (wt n d 40) 0 (times p q)
  product p q hp hq = dot-times (wt n d 20) (wt n d 20) (wt n d 40) 21 21 (wt-times n d 20) 0 0 p q hp hq

  product' : (p q : List ℕ) → 0 + length p ≤ 20 → 0 + length q ≤ 20 → 0 + length (times p q) ≤ 39
      → n * d * (dot (wt n d 19) 0 p * dot (wt n d 19) 0 q) ≡ dot (wt n d 40) 1 (times p q)
  product' p q hp hq hl =
      rw (dot-times (wt n d 19) (wt n d 19) (wt n d 38) 20 20 (wt-times n d 19) 0 0 p q hp hq) (sym (lift n d 38 0 (times p q) hl))

  left_is : dot (wt n d 40) 0 left ≡
      dot (wt n d 40) 0 (times cos_p cos_p) + dot (wt n d 40) 0 (times cos_m cos_m) + (dot (wt n d 40) 1 (times sin_p sin_p) + dot (wt n d 40) 1 (times sin_m sin_m))
  unfolding left dot
  left_is =
      rw (
        dot-plus (wt n d 40) 0 (plus (times cos_p cos_p) (times cos_m cos_m)) (0 ∷ plus (times sin_p sin_p) (times sin_m sin_m)),
        dot-plus (wt n d 40) 0 (times cos_p cos_p) (times cos_m cos_m),
        dot-plus (wt n d 40) 1 (times sin_p sin_p) (times sin_m sin_m),
      )
      (omega arith)

  right_is : dot (wt n d 40) 0 right ≡
      2 * dot (wt n d 40) 0 (times cos_p cos_m) + 2 * dot (wt n d 40) 1 (times sin_p sin_m) + factorial * factorial * d ^ 40
  unfolding right dot
  right_is =
      rw (
        dot-plus (wt n d 40) 0 (plus (scale 2 (times cos_p cos_m)) (0 ∷ scale 2 (times sin_p sin_m))) (last 40 (factorial * factorial)),
        dot-plus (wt n d 40) 0 (scale 2 (times cos_p cos_m)) (0 ∷ scale 2 (times sin_p sin_m)),
        dot-scale (wt n d 40) 0 2 (times cos_p cos_m),
        dot-scale (wt n d 40) 1 2 (times sin_p sin_m),
        last-dot (wt n d 40) 0 40 (factorial * factorial),
        pow-zero n,
      )
      (omega arith)

  module _ (bound : n ≤ 40 * d) where
    over_small : dot (wt n d 40) 0 over ≤ excess * d ^ 40
    unfolding excess
    over_small = dot_grows (wt n d 40) (λ (i : ℕ). 40 ^ (40 - i)) (d ^ 40) 41 (wt_grows n d 40 bound) 0 over over-length

    squares : (a b : ℕ) → a ≡ dot (wt n d 20) 0 cos_p → b ≡ dot (wt n d 20) 0 cos_m
        → a * a + b * b ≤ 2 * (a * b) + (factorial * factorial + excess) * d ^ 40
    unfolding over
    squares a b ea eb =
        let x = dot (wt n d 19) 0 sin_p in
        let y = dot (wt n d 19) 0 sin_m in
        let p2 = product cos_p cos_p cos_p-length cos_p-length in
        let m2 = product cos_m cos_m cos_m-length cos_m-length in
        let pm = product cos_p cos_m cos_p-length cos_m-length in
        let x2 = product' sin_p sin_p sin_p-length sin_p-length xx_length in
        let y2 = product' sin_m sin_m sin_m-length sin_m-length yy_length in
        let xy = product' sin_p sin_m sin_p-length sin_m-length xy_length in
        rw (ea, eb)
        (collect (dot (wt n d 20) 0 cos_p) (dot (wt n d 20) 0 cos_m) x y (n * d) (d ^ 40) (factorial * factorial) excess
        (dot (wt n d 40) 0 left) (dot (wt n d 40) 0 right) (dot (wt n d 40) 0 (less left right))
        (left_is ∙ sums-to p2 m2 x2 y2) (right_is ∙ sums_to' (factorial * factorial * d ^ 40) pm xy)
        (dot-less (wt n d 40) 0 left right) over_small)
      where
        sums-to : {p2 m2 x2 y2 p2' m2' x2' y2' : ℕ} → p2 ≡ p2' → m2 ≡ m2' → x2 ≡ x2' → y2 ≡ y2' → p2' + m2' + (x2' + y2') ≡ p2 + m2 + (x2 + y2)
        sums-to e f g h = omega arith

        sums_to' : (k : ℕ) {pm xy pm' xy' : ℕ} → pm ≡ pm' → xy ≡ xy' → 2 * pm' + 2 * xy' + k ≡ 2 * pm + 2 * xy + k
        sums_to' k e f = omega arith

        collect : (a b x y c D K r L R O : ℕ) → L ≡ a * a + b * b + (c * (x * x) + c * (y * y)) → R ≡ 2 * (a * b) + 2 * (c * (x * y)) + K * D
            → L ≤ R + O → O ≤ r * D → a * a + b * b ≤ 2 * (a * b) + (K + r) * D
        collect a b x y c D K r L R O el er h o = omega (arith, mul-le-mul_left c (twice-product x y))

    -- the exact sum through the twentieth power of t * t is within 1 / 2 ^ 47 of [-1, 1]
    pub range : (2 ^ 47 * (exact n d 20).0 ≤ 2 ^ 47 * (exact n d 20).1 + (2 ^ 47 + 1) * under d 20)
        × (2 ^ 47 * (exact n d 20).1 ≤ 2 ^ 47 * (exact n d 20).0 + (2 ^ 47 + 1) * under d 20)
    unfolding cos_p cos_m
    range =
        let a = (exact n d 20).0 in
        let b = (exact n d 20).1 in
        let s = squares a b (exact-dot n d 20).0 (exact-dot n d 20).1 in (
          root_bound a b (under d 20) (d ^ 40) (factorial * factorial) excess (under_squared d) s excess_small,
          root_bound b a (under d 20) (d ^ 40) (factorial * factorial) excess (under_squared d) (omega (arith, s)) excess_small,
        )
