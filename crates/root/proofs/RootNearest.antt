-- The root is right for every double. Of a finite x above zero every other double is farther from the root than the defined one, so there is never a tie.
-- In units of 2 ^ -1074 a finite value is m * 2 ^ j with m below 2 ^ 53, and the root of X units is √(X * 2 ^ 1074).
-- A value of Y units is farther from it than one of z units: for Y below z, the mean of the two is below the root, and for Y above z above it;
-- here with both sides doubled and squared.
use Prim.Native.Nat.{ℕ, zero, suc, ◌+◌, ◌-◌, ◌*◌, ◌/◌, ◌%◌, ◌^◌, ◌≤◌, ◌<◌}
use native.Mathlib.Nat.{
  lt_irrefl,
  lt_trans,
  lt_of_not-le,
  not-le_of_lt,
  zero-lt-suc,
  zero-mul,
  le_of_eq,
  lt_of_lt_of_le,
  lt_of_le_of_lt,
  mul_assoc,
  mul-mul-mul_comm,
  mul-pos,
  mul-le-mul,
  mul-le-mul_left,
  mul-le-mul_right,
  mul-lt-mul_of_pos_right,
  lt_of_mul-lt-mul_right,
  pow-succ',
}
use native.Mathlib.Omega.{arith}
use native.Mathlib.Decide.{dec_le, dec_lt}
use mathlib.Core.Path.{◌≡◌, refl, sym, ap, ◌∙◌}
use mathlib.Core.Bool.{true, false}
use lib.Dec.{T, lit<, lit≤}
use lib.IntN.{ℤ}
use lib.Pow.{pow-add, pow_pos, pow_mono}
use lib.Ieee.{Float, nan, inf, fin, binary64, low, size, odd, up, down, fits}
use lib.Ieee.Fits.{up_pos}
use lib.Ieee.Digits.{back}
use lib.Ieee.Exact.{HasValue, odd_sign}
use lib.Ieee.Scale.{finite}
use Rattle.ieee.specs.Units.{mag, is_num}
use Rattle.root.specs.Root.{floor_root, root_of, sqrt_of}
use Rattle.root.specs.Nearest.{NearestRoot, IsRoot}
use Rattle.root.specs.Inner.{Normal}
use Rattle.ieee.proofs.Grid.{mag_of_value, sign_of_value}
use Rattle.ieee.proofs.Units.{units}
use Rattle.ieee.proofs.Ops.{finite_inside}
use Rattle.root.proofs.RootFloor.{floor_le, floor_lt, halves}
use Rattle.root.proofs.RootPattern.{Signif, signif, around, rounded}
use Rattle.root.proofs.RootDigits.{Ready, even_j, odd_j, normal_of}
use Rattle.root.proofs.RootResults.{root_fits, finite_of_value}

record Nearest (X z : ℕ) : Type 0 where
  below : (m j : ℕ) → m < 2 ^ 53 → m * 2 ^ j < z → (m * 2 ^ j + z) * (m * 2 ^ j + z) < 4 * (X * 2 ^ 1074)
  above : (m j : ℕ) → m < 2 ^ 53 → z < m * 2 ^ j → 4 * (X * 2 ^ 1074) < (m * 2 ^ j + z) * (m * 2 ^ j + z)

-- ---- the gaps around R * 2 ^ k, for an R of 53 digits
split : (j k : ℕ) → k ≤ j → 2 ^ j ≡ 2 ^ (j - k) * 2 ^ k
split j k h = ap (λ (z : ℕ). 2 ^ z) (sym (back j k h)) ∙ pow-add 2 (j - k) k

-- a finer value is below 2 ^ 52 * 2 ^ k
finer : (m j k : ℕ) → m < 2 ^ 53 → j < k → m * 2 ^ j < 2 ^ 52 * 2 ^ k
finer m j k h l =
    let a : 2 ^ suc j ≤ 2 ^ k = pow_mono l in
    let b : 2 ^ suc j ≡ 2 * 2 ^ j = pow-succ' 2 j in
    let c : m * 2 ^ j < 2 ^ 53 * 2 ^ j = mul-lt-mul_of_pos_right h (pow_pos j) in
    omega arith

gap_above : (R m j k : ℕ) → 2 ^ 52 ≤ R → m < 2 ^ 53 → R * 2 ^ k < m * 2 ^ j → (R + 1) * 2 ^ k ≤ m * 2 ^ j
gap_above R m j k lo h l = go (dec_le k j)
  where
    go : Dec (k ≤ j) → (R + 1) * 2 ^ k ≤ m * 2 ^ j
    go (yes g) =
        let e : m * 2 ^ j ≡ m * 2 ^ (j - k) * 2 ^ k = ap (λ (z : ℕ). m * z) (split j k g) ∙ sym (mul_assoc m (2 ^ (j - k)) (2 ^ k)) in
        let f : R < m * 2 ^ (j - k) = lt_of_mul-lt-mul_right (2 ^ k) (rw (← e) l) in
        let n : R + 1 ≤ m * 2 ^ (j - k) = omega arith in
        rw e (mul-le-mul_right (2 ^ k) n)
    go (no g) = absurd (let a = finer m j k h (omega arith) in let b : 2 ^ 52 * 2 ^ k ≤ R * 2 ^ k = mul-le-mul_right (2 ^ k) lo in omega arith)

gap_below : (A R m j k : ℕ) → A + 1 ≡ 2 * R → 2 ^ 52 < R → m < 2 ^ 53 → m * 2 ^ j < R * 2 ^ k → m * 2 ^ j + R * 2 ^ k ≤ A * 2 ^ k
gap_below A R m j k e lo h l = go (dec_le k j)
  where
    twice : (A + 1) * 2 ^ k ≡ 2 * R * 2 ^ k
    twice = ap (λ (z : ℕ). z * 2 ^ k) e

    go : Dec (k ≤ j) → m * 2 ^ j + R * 2 ^ k ≤ A * 2 ^ k
    go (yes g) =
        let e : m * 2 ^ j ≡ m * 2 ^ (j - k) * 2 ^ k = ap (λ (z : ℕ). m * z) (split j k g) ∙ sym (mul_assoc m (2 ^ (j - k)) (2 ^ k)) in
        let f : m * 2 ^ (j - k) < R = lt_of_mul-lt-mul_right (2 ^ k) (rw (← e) l) in
        let n : (m * 2 ^ (j - k) + 1) * 2 ^ k ≤ R * 2 ^ k = mul-le-mul_right (2 ^ k) (omega arith) in
        let t = twice in
        omega arith
    go (no g) =
        let a = finer m j k h (omega arith) in
        let b : (2 ^ 52 + 1) * 2 ^ k ≤ R * 2 ^ k = mul-le-mul_right (2 ^ k) (omega arith) in
        let t = twice in
        omega arith

square : (a b N P : ℕ) → 0 < P → a ≤ b * P → b * b < N → a * a < N * (P * P)
square a b N P p h l = lt_of_le_of_lt (mul-le-mul h h) (rw (mul-mul-mul_comm b P b P) (mul-lt-mul_of_pos_right l (mul-pos p p)))

square-lt : (a b N P : ℕ) → a < b * P → b * b ≤ N → a * a < N * (P * P)
square-lt a b N P h l =
    let c : suc a * suc a ≤ b * P * (b * P) = mul-le-mul h h in
    let d : b * P * (b * P) ≤ N * (P * P) = rw (mul-mul-mul_comm b P b P) (mul-le-mul_right (P * P) l) in
    omega arith

square-up : (a b N P : ℕ) → 0 < P → b * P ≤ a → N < b * b → N * (P * P) < a * a
square-up a b N P p h l = lt_of_lt_of_le (rw (mul-mul-mul_comm b P b P) (mul-lt-mul_of_pos_right l (mul-pos p p))) (mul-le-mul h h)

under : (N R m j k : ℕ) → 2 ^ 106 ≤ N → Signif N R → m < 2 ^ 53 → m * 2 ^ j < R * 2 ^ k
    → (m * 2 ^ j + R * 2 ^ k) * (m * 2 ^ j + R * 2 ^ k) < N * (2 ^ k * 2 ^ k)
under N R m j k big s h l = go (dec_lt (2 ^ 52) R)
  where
    go : Dec (2 ^ 52 < R) → (m * 2 ^ j + R * 2 ^ k) * (m * 2 ^ j + R * 2 ^ k) < N * (2 ^ k * 2 ^ k)
    go (yes g) = square (m * 2 ^ j + R * 2 ^ k) s.A N (2 ^ k) (pow_pos k) (gap_below s.A R m j k s.next g h l) s.above
    go (no g) =
        let e : R ≡ 2 ^ 52 = omega (arith, s.full) in
        let l' : m * 2 ^ j < 2 ^ 52 * 2 ^ k = rw e at l in
        rw e (square-lt (m * 2 ^ j + 2 ^ 52 * 2 ^ k) (2 ^ 53) N (2 ^ k) (omega arith) (omega arith))

over : (N R m j k : ℕ) → Signif N R → m < 2 ^ 53 → R * 2 ^ k < m * 2 ^ j → N * (2 ^ k * 2 ^ k) < (m * 2 ^ j + R * 2 ^ k) * (m * 2 ^ j + R * 2 ^ k)
over N R m j k s h l =
    let g = gap_above R m j k s.full h l in
    square-up (m * 2 ^ j + R * 2 ^ k) (2 * R + 1) N (2 ^ k) (pow_pos k) (omega arith) s.below

-- ---- the number in units, by M and h
regroup : (n M p a b c d : ℕ) → n * a ≡ M * (p * p) → a * (b * (c * c)) ≡ 4 * d → 4 * (n * d) ≡ M * b * (p * c * (p * c))
regroup n M p a b c d e f =
    let g : n * a * (b * (c * c)) ≡ M * (p * p) * (b * (c * c)) = ap (λ (z : ℕ). z * (b * (c * c))) e in
    let h : a * (b * (c * c)) * n ≡ 4 * d * n = ap (λ (z : ℕ). z * n) f in
    omega arith

in_units : (n M h : ℕ) → n * 2 ^ 52 ≡ M * (2 ^ h * 2 ^ h) → 4 * (n * 2 ^ 1074) ≡ M * 2 ^ 54 * (2 ^ (h + 485) * 2 ^ (h + 485))
in_units n M h e = rw (pow-add 2 h 485) (regroup n M (2 ^ h) (2 ^ 52) (2 ^ 54) (2 ^ 485) (2 ^ 1074) e refl)

abbrev Found : ℕ → Type 0
Found n = (z : ℕ) × HasValue (root_of n) false z (2 ^ 1074) × Nearest n z

found : (n M h : ℕ) → 2 ^ 52 ≤ M → M ≤ 2 ^ 54 - 2 → h ≤ 1049 → n * 2 ^ 52 ≡ M * (2 ^ h * 2 ^ h) → Found n
unfolding root_of
found n M h lo hi H e =
    let N = M * 2 ^ 54 in
    let R = (floor_root N + 1) / 2 in
    let s = signif M (floor_root N) lo hi (floor_le N) (floor_lt N) in
    let is : root_of n ≡ odd 53 false R (h + 485) (low binary64) = rounded h (halves (n * 4 ^ 54)) R H s.full s.short
    (around n M (2 ^ h) R (pow_pos h) e lo hi s) in
    let u = in_units n M h e in (
      R * 2 ^ (h + 485),
      rw is (odd_sign 53 false R (h + 485) (low binary64)),
      record {
        below = λ m j a b. rw u (under N R m j (h + 485) (omega arith) s a b);
        above = λ m j a b. rw u (over N R m j (h + 485) s a b);
      },
    )

from_ready : (t k j M : ℕ) → j ≤ 2098 → Ready t k j M → Found (t * 2 ^ k)
from_ready t k j M h r = found (t * 2 ^ k) M (j / 2) r.full r.short (omega arith) r.same

pow_lt_back : (i j : ℕ) → 2 ^ i < 2 ^ j → i < j
pow_lt_back i j h = lt_of_not-le (λ (g : j ≤ i). not-le_of_lt h (pow_mono g))

-- below 2 ^ 2098 units, where the infinity starts
near_enough : (t k m j : ℕ) → Normal t k m j → t * 2 ^ k < 2 ^ 2098 → j ≤ 2098
near_enough t k m j a h =
    let b : t * 2 ^ k * 2 ^ 52 < 2 ^ 2098 * 2 ^ 52 = mul-lt-mul_of_pos_right h (pow_pos 52) in
    let c : t * 2 ^ (k + 52) ≡ t * 2 ^ k * 2 ^ 52 = ap (λ (z : ℕ). t * z) (pow-add 2 k 52) ∙ sym (mul_assoc t (2 ^ k) (2 ^ 52)) in
    let d : 2 ^ (52 + j) ≤ m * 2 ^ j = rw (pow-add 2 52 j) (mul-le-mul_right (2 ^ j) a.full) in
    let e : 2 ^ (52 + j) < 2 ^ 2150 = lt_of_le_of_lt d (lt_of_le_of_lt (le_of_eq (a.same ∙ c)) b) in
    let f : 52 + j < 2150 = pow_lt_back (52 + j) 2150 e in
    omega (arith, f)

-- of every value t * 2 ^ k units that binary64 holds
root_nearest : (t k : ℕ) → 0 < t → t < 2 ^ 53 → t * 2 ^ k < 2 ^ 2098 → Found (t * 2 ^ k)
root_nearest t k p h l = go (dec_le 1 (j % 2))
  where
    m : ℕ
    m = t * 2 ^ (53 - size t)

    j : ℕ
    j = k + 52 - (53 - size t)

    a : Normal t k m j
    a = normal_of t k p h

    go : Dec (1 ≤ j % 2) → Found (t * 2 ^ k)
    go (yes g) = from_ready t k j (2 * m) (near_enough t k m j a l) (odd_j t k m j a (omega arith))
    go (no g) = from_ready t k j m (near_enough t k m j a l) (even_j t k m j a (omega arith))

-- ---- of every double
-- n units, as digits and their place
at_place : (n q j : ℕ) → 0 < n → n ≡ q * 2 ^ j → q < 2 ^ 53 → n < 2 ^ 2098 → Found n
at_place n zero j p e h l = absurd (omega (arith, zero-mul (2 ^ j)))
at_place n (suc q) j p e h l = rw e (root_nearest (suc q) j (zero-lt-suc q) h (rw e at l))

-- a value that is finite and above zero has some units
some : (m n a b K : ℕ) → suc m * a * K ≡ n * b → 0 < a → 0 < K → 0 < n
some m zero a b K e p q = absurd (let h : 0 < suc m * a * K = mul-pos (mul-pos (zero-lt-suc m) p) q in omega (arith, zero-mul b))
some m (suc n) a b K e p q = zero-lt-suc n

-- an infinity counts as B units
far : (X z B K : ℕ) → X < B → 4 * K ≤ B → 4 * (X * K) < (B + z) * (B + z)
far X z B K h k =
    let a : X * (4 * K) ≤ X * B = mul-le-mul_left X k in
    let b : suc X * B ≤ B * B = mul-le-mul_right B h in
    omega arith

less : (a b : ℕ) → (a - b) * (a - b) ≤ (0 * 2 ^ 0 + a) * (0 * 2 ^ 0 + a)
less a b = let h : a - b ≤ 0 * 2 ^ 0 + a = omega arith in mul-le-mul h h

under_zero : (Y N : ℕ) → 0 < N → (0 - Y) * (0 - Y) < 4 * N
under_zero Y N p = let e : 0 - Y ≡ 0 = omega arith in rw e (omega arith)

module _ (X z : ℕ) (p : 0 < X) (inside : X < 2 ^ 2098) (short : z < 2 ^ 2098) (near : Nearest X z) where
  below_it : (y : Float) → T (fits binary64 y) → T (is_num y) → mag binary64 y < z → (mag binary64 y + z) * (mag binary64 y + z) < 4 * (X * 2 ^ 1074)
  below_it nan h t l = absurd t
  below_it (inf s) h t l = absurd (lt_irrefl z (lt_trans short l))
  below_it (fin s m e) h t l = let u = units binary64 s m e h in rw u.form (near.below u.digits u.place u.few_digits (rw u.form at l))

  above_it : (y : Float) → T (fits binary64 y) → T (is_num y) → z < mag binary64 y → 4 * (X * 2 ^ 1074) < (mag binary64 y + z) * (mag binary64 y + z)
  above_it nan h t l = absurd t
  above_it (inf s) h t l = far X z (2 ^ 2098) (2 ^ 1074) inside (lit≤ tt)
  above_it (fin s m e) h t l = let u = units binary64 s m e h in rw u.form (near.above u.digits u.place u.few_digits (rw u.form at l))

  -- 0 is the farthest that a negative value can be near
  beyond : (Y : ℕ) → (z - Y) * (z - Y) < 4 * (X * 2 ^ 1074)
  beyond Y = go z refl
    where
      go : (w : ℕ) → w ≡ z → (z - Y) * (z - Y) < 4 * (X * 2 ^ 1074)
      go zero e = rw (← e) (under_zero Y (X * 2 ^ 1074) (mul-pos p (pow_pos 1074)))
      go (suc w) e = lt_of_le_of_lt (less z Y) (near.below 0 0 (lit< tt) (rw (← e) (zero-lt-suc w)))

-- x finite and above zero
sqrt_nearest : (m : ℕ) (e : ℤ) → T (fits binary64 (fin false (suc m) e)) → NearestRoot (fin false (suc m) e) (sqrt_of (fin false (suc m) e))
unfolding sqrt_of
sqrt_nearest m e f =
    let x = fin false (suc m) e in
    let X = mag binary64 x in
    let u = units binary64 false (suc m) e f in
    let p : 0 < X = some m X (up e) (down e) (2 ^ 1074) u.cross (up_pos e) (pow_pos 1074) in
    let r = at_place X u.digits u.place p u.form u.few_digits u.inside in
    let is : mag binary64 (root_of X) ≡ r.0 = mag_of_value binary64 (root_of X) false r.0 r.1 in
    let ends : T (finite (root_of X)) = finite_of_value (root_of X) false r.0 (2 ^ 1074) r.1 in
    let short : r.0 < 2 ^ 2098 = rw is at (finite_inside {f = binary64} {x = root_of X} (record { held = root_fits X; ends = ends })) in
    record {
      held = root_fits X;
      ends = ends;
      plus = sign_of_value (root_of X) false r.0 (2 ^ 1074) r.1;
      below = λ y h t s l. rw is (below_it X r.0 p u.inside short r.2 y h t (rw is at l));
      above = λ y h t s l. rw is (above_it X r.0 p u.inside short r.2 y h t (rw is at l));
      negative = λ y h t s. rw is (beyond X r.0 p u.inside short r.2 (mag binary64 y));
    }

-- for every x of binary64
pub sqrt_is_root : (x : Float) → T (fits binary64 x) → IsRoot x (sqrt_of x)
unfolding sqrt_of IsRoot
sqrt_is_root nan f = refl
sqrt_is_root (inf false) f = refl
sqrt_is_root (inf true) f = refl
sqrt_is_root (fin s zero e) f = refl
sqrt_is_root (fin false (suc m) e) f = sqrt_nearest m e f
sqrt_is_root (fin true (suc m) e) f = refl
