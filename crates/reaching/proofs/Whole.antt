-- A step over whole numbers: x and the direction g, in units of which 1.0 has K, and the four rounded results, each within 1 / N of what it rounds.
use mathlib.Core.Path.{◌≡◌, refl, ap, subst}
use Prim.Native.Nat.{ℕ, ◌+◌, ◌-◌, ◌*◌, ◌^◌, ◌≤◌, ◌<◌}
use native.Mathlib.Nat.{mul-le-mul_right, mul-le-mul_left, le_of_mul-le-mul_right}
use native.Mathlib.Decide.{dec_le}
use native.Mathlib.Omega.{arith}
use mathlib.Core.Bool.{Bool, true, false, not, cond, beq, ◌&&◌}
use lib.Dec.{T, ltb, ltb→lt, nltb→le}
use Rattle.ieee.proofs.SignedSums.{sum_sign}
use Rattle.reaching.specs.Whole.{Near, About, Step, sum_size, left_over}

-- ---- b falls short of a by i / N of a at most
pub record Short (N i a b : ℕ) : Type 0 where
  pub by : a * N ≤ b * N + i * a

farther : (N j a d c : ℕ) → j ≤ N → (a + d) * N ≤ c * N + j * (a + d) → a * N ≤ c * N + j * a
farther N j a d c h k = let m = mul-le-mul_right d h in omega arith

pub short_then : {N i j a b c : ℕ} → j ≤ N → Short N i a b → Short N j b c → Short N (i + j) a c
short_then {N} {i} {j} {a} {b} {c} h p q = record { by = go (dec_le b a) }
  where
    go : Dec (b ≤ a) → a * N ≤ c * N + (i + j) * a
    go (yes l) = let m = mul-le-mul_left j l in let x = p.by in let y = q.by in omega arith
    go (no l) =
        let e : b ≡ a + (b - a) = omega arith in
        let y : (a + (b - a)) * N ≤ c * N + j * (a + (b - a)) = subst (λ (z : ℕ). z * N ≤ c * N + j * z) e q.by in
        let z = farther N j a (b - a) c h y in
        omega arith

pub near_short : {N a c g : ℕ} → Near N a c g → Short N 1 a (g * c)
near_short p = record { by = let x = p.under in omega arith }

-- ---- The exact difference is d; rounded it is D; over g, rounded, Q; times g, rounded, P. The quotient may be subnormal: then it is off by a unit,
-- and the product by G / K of them, which is at most 8 / N of K for every finite g.
pub record Product (N K d P : ℕ) : Type 0 where
  pub least : d * N ≤ P * N + 17 * K
  pub most : P ≤ 5 * K

one : (a : ℕ) → a * 1 ≡ a
one a = omega arith

pub product : (N K G d D Q P : ℕ) → 64 ≤ N → 0 < K → G * N ≤ 8 * (K * K) → d ≤ 2 * K → Near N d 1 D → About N (D * K) G Q → Near N (Q * G) K P → Product N K d P
product N K G d D Q P n k g l r1 r2 r3 =
    let m : 0 < N = omega arith in
    let a : D * N ≤ d * N + d = subst (λ (z : ℕ). z * N ≤ d * N + d) (one D) r1.above in
    let b : d * N ≤ D * N + d = subst (λ (z : ℕ). d * N ≤ z * N + d) (one D) r1.under in
    let D3 : D ≤ 3 * K = le_of_mul-le-mul_right
    (let x = mul-le-mul_right K n in let y = mul-le-mul_right N l in let z : D * N ≤ 3 * K * N = omega arith in z) m in
    let DK = mul-le-mul_right K D3 in
    let T4 : Q * G ≤ 4 * (K * K) = le_of_mul-le-mul_right
    (let x = mul-le-mul_right (K * K) n in let y = mul-le-mul_right N DK in let u = r2.above in let z : Q * G * N ≤ 4 * (K * K) * N = omega arith in z) m in
    let P5 : P * K ≤ 5 * (K * K) = le_of_mul-le-mul_right
    (let x = mul-le-mul_right (K * K) n in let y = mul-le-mul_right N T4 in let u = r3.above in let z : P * K * N ≤ 5 * (K * K) * N = omega arith in z) m in
    let bK = mul-le-mul_right K b in
    let lK = mul-le-mul_right K l in
    record {
      least = le_of_mul-le-mul_right (let u = r2.under in let v = r3.under in let z : d * N * K ≤ (P * N + 17 * K) * K = omega arith in z) k;
      most = le_of_mul-le-mul_right (let z : P * K ≤ 5 * K * K = omega arith in z) k;
    }

-- ---- what is left to 1 or -1, the direction's sign being g and x's sign s
pub left-most : (g s : Bool) (K X : ℕ) → X < K → left_over g K s X ≤ 2 * K
left-most g s K X h = go (beq g s)
  where
    go : (b : Bool) → cond b (K - X) (K + X) ≤ 2 * K
    go true = omega arith
    go false = omega arith

pub left-least : (g s : Bool) (K X : ℕ) → K - X ≤ left_over g K s X
left-least g s K X = go (beq g s)
  where
    go : (b : Bool) → K - X ≤ cond b (K - X) (K + X)
    go true = omega arith
    go false = omega arith

minus_larger : (K X : ℕ) → X < K → cond (ltb K X) (X - K) (K - X) ≡ K - X
minus_larger K X h = go (ltb K X) (ltb→lt K X)
  where
    go : (b : Bool) → (T b → K < X) → cond b (X - K) (K - X) ≡ K - X
    go true l = let q : K < X = l tt in omega arith
    go false l = refl

pub left_is : (g s : Bool) (K X : ℕ) → X < K → sum_size g K (not s) X ≡ left_over g K s X
left_is true true K X h = minus_larger K X h
left_is true false K X h = refl
left_is false true K X h = refl
left_is false false K X h = minus_larger K X h

minus-sign : (g : Bool) (K X : ℕ) → X < K → cond (ltb K X) (not g) (g && ltb X K) ≡ g
minus-sign g K X h = go (ltb K X) (ltb X K) (ltb→lt K X) (nltb→le X K) g
  where
    go : (b c : Bool) → (T b → K < X) → (T (not c) → K ≤ X) → (g : Bool) → cond b (not g) (g && c) ≡ g
    go true c l m g = absurd (let q : K < X = l tt in let z : ⊥ = omega arith in z)
    go false true l m true = refl
    go false true l m false = refl
    go false false l m g = absurd (let q : K ≤ X = m tt in let z : ⊥ = omega arith in z)

-- the difference has the direction's sign
pub left-sign : (g s : Bool) (K X : ℕ) → X < K → sum_sign g K (not s) X ≡ g
left-sign true true K X h = minus-sign true K X h
left-sign true false K X h = refl
left-sign false true K X h = refl
left-sign false false K X h = minus-sign false K X h

-- ---- x and the product come to K but for i / N of it
toward : (N K X P d i : ℕ) → d + X ≡ K → d * N ≤ P * N + i * K → Short N i K (X + P)
toward N K X P d i e p = record { by = let y = ap (λ (z : ℕ). z * N) e in omega arith }

across : (N K X P d i : ℕ) → d ≡ K + X → d * N ≤ P * N + i * K → Short N i K (P - X)
across N K X P d i e p = record { by = go (dec_le X P) }
  where
    go : Dec (X ≤ P) → K * N ≤ (P - X) * N + i * K
    go (yes l) =
        let y = ap (λ (z : ℕ). z * N) e in
        let w : P ≡ P - X + X = omega arith in
        let v = ap (λ (z : ℕ). z * N) w in
        omega arith
    go (no l) =
        let y = ap (λ (z : ℕ). z * N) e in
        let v = mul-le-mul_right N (let w : P ≤ X = omega arith in w) in
        omega arith

apart : (N K X P i : ℕ) → Short N i K (P - X) → Short N i K (cond (ltb X P) (P - X) (X - P))
apart N K X P i p = go (ltb X P) (nltb→le X P)
  where
    go : (b : Bool) → (T (not b) → P ≤ X) → Short N i K (cond b (P - X) (X - P))
    go true h = p
    go false h =
        let l : P ≤ X = h tt in
        let w : P - X ≤ X - P = omega arith in
        record { by = let m = mul-le-mul_right N w in let x = p.by in omega arith }

pub arrives : (N K X P i : ℕ) (g s : Bool) → X < K → left_over g K s X * N ≤ P * N + i * K → Short N i K (sum_size s X g P)
arrives N K X P i true true h p = toward N K X P (K - X) i (omega arith) p
arrives N K X P i false false h p = toward N K X P (K - X) i (omega arith) p
arrives N K X P i true false h p = apart N K X P i (across N K X P (K + X) i refl p)
arrives N K X P i false true h p = apart N K X P i (across N K X P (K + X) i refl p)

-- ---- a step over whole numbers: what comes is K but for 18 / N of it, and so a limit L that is farther than that from K is reached
pub step_reaches : (N K X G D Q P R L : ℕ) (g s : Bool) → 64 ≤ N → X < K → G * N ≤ 8 * (K * K) → Step N K s X g G D Q P R → L * N + 18 * K ≤ K * N → L ≤ R
step_reaches N K X G D Q P R L g s n h b r l =
    let k : 0 < K = omega arith in
    let w : 1 ≤ N = omega arith in
    let made = product N K G (left_over g K s X) D Q P n k b (left-most g s K X h) r.difference r.quotient r.product in
    let a = arrives N K X P 17 g s h made.least in
    let c : Short N 18 K R = subst (Short N 18 K) (one R) (short_then w a (near_short r.sum)) in
    le_of_mul-le-mul_right (let x = c.by in let y : L * N ≤ R * N = omega arith in y) (let m : 0 < N = omega arith in m)

-- as request R-9 asks it: a direction of at most 2 ^ 20
pub step_within : (N K X G D Q P R L : ℕ) (g s : Bool) → 64 ≤ N → X < K → G ≤ 2 ^ 20 * K → 2 ^ 17 * N ≤ K → Step N K s X g G D Q P R
    → L * N + 18 * K ≤ K * N → L ≤ R
step_within N K X G D Q P R L g s n h b m r l =
    step_reaches N K X G D Q P R L g s n h (let x = mul-le-mul_right N b in let y = mul-le-mul_right K m in omega arith) r l
