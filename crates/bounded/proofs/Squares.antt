-- One projection over whole numbers: the sum of squares does not grow but for rounding, where the vector projected on has a sum of squares of at most 2.
use mathlib.Core.Path.{◌≡◌, subst}
use Prim.Native.Nat.{ℕ, zero, suc, ◌+◌, ◌-◌, ◌*◌, ◌≤◌, ◌<◌}
use native.Mathlib.Nat.{le_trans, le-suc, lt-suc_self, eq-or-lt_of_le, mul-le-mul, mul-le-mul_right, mul-le-mul_left}
use native.Mathlib.Decide.{dec_le}
use native.Mathlib.Omega.{arith}
use mathlib.Core.Logic.{◌⊎◌, inl, inr}
use mathlib.Core.Bool.{Bool, true, false}
use lib.Ieee.{unlike}
use Rattle.bounded.proofs.Close.{Close}
use Rattle.bounded.proofs.Signed.{over, below}
use Rattle.bounded.proofs.Within.{total}

-- ---- squares
pub squared : (a b : ℕ) → a ≤ b → a * a ≤ b * b
squared a b h = mul-le-mul h h

-- 2 x y <= x x + y y, for y at most x
ordered : (x d : ℕ) → 2 * (x * (x + d)) ≤ x * x + (x + d) * (x + d)
ordered x d = omega arith

pub twice-product : (x y : ℕ) → 2 * (x * y) ≤ x * x + y * y
twice-product x y = go (dec_le x y)
  where
    go : Dec (x ≤ y) → 2 * (x * y) ≤ x * x + y * y
    go (yes h) = subst (λ (z : ℕ). 2 * (x * z) ≤ x * x + z * z) (let e : x + (y - x) ≡ y = omega arith in e) (ordered x (y - x))
    go (no h) = let r = subst (λ (z : ℕ). 2 * (y * z) ≤ y * y + z * z) (let e : y + (x - y) ≡ x = omega arith in e) (ordered y (x - y)) in omega arith

pub root_le : (a b : ℕ) → a * a ≤ b * b → a ≤ b
root_le a b h = go (dec_le a b)
  where
    go : Dec (a ≤ b) → a ≤ b
    go (yes l) = l
    go (no l) =
        let m : suc b ≤ a = omega arith in
        let s = squared (suc b) a m in
        let z : ⊥ = omega arith in
        absurd z

-- Z is at most X - Y and n
gap : (Z d Y n : ℕ) → Z ≤ d + n → Z * Z + 2 * ((d + Y) * Y) ≤ (d + Y) * (d + Y) + Y * Y + (2 * ((d + Y + Y) * n) + n * n)
gap Z d Y n h = let s = squared Z (d + n) h in omega arith

apart : (Z X Y n : ℕ) → Z + Y ≤ X + n → Z * Z + 2 * (X * Y) ≤ X * X + Y * Y + (2 * ((X + Y) * n) + n * n)
apart Z X Y n h = go (dec_le Y X)
  where
    go : Dec (Y ≤ X) → Z * Z + 2 * (X * Y) ≤ X * X + Y * Y + (2 * ((X + Y) * n) + n * n)
    go (yes l) =
        subst (λ (x : ℕ). Z * Z + 2 * (x * Y) ≤ x * x + Y * Y + (2 * ((x + Y) * n) + n * n)) (let e : X - Y + Y ≡ X = omega arith in e)
        (gap Z (X - Y) Y n (omega arith))
    go (no l) = let s = squared Z n (let g : Z ≤ n = omega arith in g) in let t = twice-product X Y in omega arith

apart' : (Z X Y n : ℕ) → Z + X ≤ Y + n → Z * Z + 2 * (X * Y) ≤ X * X + Y * Y + (2 * ((X + Y) * n) + n * n)
apart' Z X Y n h = let s = apart Z Y X n h in omega arith

along : (Z X Y n : ℕ) → Z ≤ X + Y + n → Z * Z ≤ X * X + Y * Y + 2 * (X * Y) + (2 * ((X + Y) * n) + n * n)
along Z X Y n h = let s = squared Z (X + Y + n) h in omega arith

enlarge : (a b c W n e : ℕ) → b ≤ c + (2 * (a * n) + n * n) → a ≤ W → 2 * (W * n) + n * n ≤ e → b ≤ c + e
enlarge a b c W n e h l k = let s = mul-le-mul_right n l in omega arith

-- X less Y, as signs say, comes to Z but for n
pub entry : (s t r : Bool) (Z X Y n W e : ℕ) → Close n (over r Z) (below r Z) (over s X + below t Y) (below s X + over t Y) → X + Y ≤ W
    → 2 * (W * n) + n * n ≤ e
    → Z * Z + 2 * over (unlike s t) (X * Y) ≤ X * X + Y * Y + 2 * below (unlike s t) (X * Y) + e
entry s t r Z X Y n W e c w b = enlarge (X + Y) (Z * Z + 2 * over (unlike s t) (X * Y)) (X * X + Y * Y + 2 * below (unlike s t) (X * Y)) W n e (go s t r c) w b
  where
    go : (s t r : Bool) → Close n (over r Z) (below r Z) (over s X + below t Y) (below s X + over t Y)
        → Z * Z + 2 * over (unlike s t) (X * Y) ≤ X * X + Y * Y + 2 * below (unlike s t) (X * Y) + (2 * ((X + Y) * n) + n * n)
    go true true true c = let l : Z + Y ≤ X + n = let x = c.low_by in omega arith in let a = apart Z X Y n l in omega arith
    go true true false c = let l : Z + X ≤ Y + n = let x = c.over in omega arith in let a = apart' Z X Y n l in omega arith
    go false false true c = let l : Z + X ≤ Y + n = let x = c.low_by in omega arith in let a = apart' Z X Y n l in omega arith
    go false false false c = let l : Z + Y ≤ X + n = let x = c.over in omega arith in let a = apart Z X Y n l in omega arith
    go true false true c = let l : Z ≤ X + Y + n = let x = c.low_by in omega arith in let a = along Z X Y n l in omega arith
    go true false false c = let l : Z ≤ X + Y + n = let x = c.over in omega arith in let a = along Z X Y n l in omega arith
    go false true true c = let l : Z ≤ X + Y + n = let x = c.low_by in omega arith in let a = along Z X Y n l in omega arith
    go false true false c = let l : Z ≤ X + Y + n = let x = c.over in omega arith in let a = along Z X Y n l in omega arith

-- ---- summed over the entries
abbrev pub sq : (ℕ → ℕ) → ℕ → ℕ
sq h j = h j * h j

pub entries : (Z X Q a b : ℕ → ℕ) (C K e k : ℕ)
    → ((j : ℕ) → j < k → sq Z j * (K * K) + 2 * (C * K) * a j ≤ sq X j * (K * K) + C * C * sq Q j + 2 * (C * K) * b j + e)
    → total (sq Z) k * (K * K) + 2 * (C * K) * total a k ≤ total (sq X) k * (K * K) + C * C * total (sq Q) k + 2 * (C * K) * total b k + k * e
unfolding total
entries Z X Q a b C K e zero h = omega arith
entries Z X Q a b C K e (suc k) h =
    join (total (sq Z) k) (total (sq X) k) (total (sq Q) k) (total a k) (total b k) (sq Z k) (sq X k) (sq Q k) (a k) (b k) (K * K) (C * K) (C * C)
    (entries Z X Q a b C K e k (λ j l. h j (le_trans l (le-suc k)))) (h k (lt-suc_self k))
  where
    join : (z x q u v z' x' q' u' v' KK CK CC : ℕ) → z * KK + 2 * CK * u ≤ x * KK + CC * q + 2 * CK * v + k * e
        → z' * KK + 2 * CK * u' ≤ x' * KK + CC * q' + 2 * CK * v' + e
        → (z + z') * KK + 2 * CK * (u + u') ≤ (x + x') * KK + CC * (q + q') + 2 * CK * (v + v') + suc k * e
    join z x q u v z' x' q' u' v' KK CK CC s t = omega arith

-- C is the dot product but for d, and Q's sum of squares is at most 2: so the sum of squares grows by the errors alone
pub no_longer : (z x q a b C K d E : ℕ) → z * (K * K) + 2 * (C * K) * a ≤ x * (K * K) + C * C * q + 2 * (C * K) * b + E → q ≤ 2 * (K * K)
    → C * K + b ≤ a + d → z * (K * K) ≤ x * (K * K) + (2 * (C * K) * d + E)
no_longer z x q a b C K d E h l g =
    let m = mul-le-mul_left (C * C) l in
    let n = mul-le-mul_left (2 * (C * K)) g in
    omega arith

-- at least each
pub total_ge : (h : ℕ → ℕ) (k j : ℕ) → j < k → h j ≤ total h k
unfolding total
total_ge h zero j l = absurd (let z : ⊥ = omega arith in z)
total_ge h (suc k) j l = go (eq-or-lt_of_le (let g : j ≤ k = omega arith in g)) (total_ge h k j)
  where
    go : (j ≡ k) ⊎ (j < k) → (j < k → h j ≤ total h k) → h j ≤ total h k + h k
    go (inl e) r = subst (λ (i : ℕ). h j ≤ total h k + h i) e (let g : h j ≤ total h k + h j = omega arith in g)
    go (inr m) r = le_trans (r m) (let g : total h k ≤ total h k + h k = omega arith in g)

pub total-most : (h : ℕ → ℕ) (k M : ℕ) → ((j : ℕ) → j < k → h j ≤ M) → total h k ≤ k * M
unfolding total
total-most h zero M b = omega arith
total-most h (suc k) M b = let r = total-most h k M (λ j l. b j (le_trans l (le-suc k))) in let s = b k (lt-suc_self k) in join (total h k) (h k) r s
  where
    join : (a c : ℕ) → a ≤ k * M → c ≤ M → a + c ≤ suc k * M
    join a c x y = omega arith
