-- A vector divided by its computed length has a sum of squares of at most 2, unless its squares underflow.
use mathlib.Core.Path.{◌≡◌, refl, sym, ◌∙◌, subst}
use Prim.Native.Nat.{ℕ, zero, suc, ◌+◌, ◌*◌, ◌^◌, ◌≤◌, ◌<◌, min}
use native.Mathlib.Nat.{le_refl, le_trans, le-suc, lt-suc_self, lt_of_le_of_lt}
use native.Mathlib.Nat.{le_of_mul-le-mul_right, mul-le-mul_right, mul-le-mul_left, add-le-add, mul-pos}
use native.Mathlib.Omega.{arith}
use mathlib.Core.Bool.{Bool, true, false}
use lib.Dec.{T, lit≤, lit<}
use lib.Ieee.{Float, fin, binary64, prec, unlike, add, mul, div}
use lib.Ieee.Fits.{div-fits}
use lib.Ieee.Scale.{grid, overflow}
use Rattle.ieee.specs.Units.{sign, mag}
use Rattle.seq.specs.Sums.{sum_from}
use Rattle.ieee.proofs.Ops.{finite_number, finite_inside, inside_finite, rnd, add-units, Positive}
use Rattle.ieee.proofs.Sums.{Size, sum-size, sum_ge}
use Rattle.ieee.proofs.Products.{mul-units}
use Rattle.reaching.proofs.Divide.{div_any}
use Rattle.reaching.specs.Whole.{About}
use Rattle.reaching.proofs.Close.{about, rnd_about, mul_about}
use Rattle.bounded.proofs.Within.{Within, mul_within, sum_within, sum_grows, total, K, Vec, fewer}
use Rattle.bounded.proofs.Dot.{dot}
use Rattle.bounded.proofs.Squares.{sq, total_ge, root_le, squared, twice-product}
use Rattle.bounded.proofs.Project.{sizes, squares, Short}

-- ---- the computed sum of squares is not much below the exact one
pub record Summed (v : ℕ → Float) (k : ℕ) : Type 0 where
  pub by : squares v k * 2 ^ 53 ≤ mag binary64 (dot v v k) * K * 2 ^ 53 + 2 * k * (mag binary64 (dot v v k) * K) + 2 * k * (K * 2 ^ 53) + squares v k

-- s and p are added to s'
joined : (E Y s p s' k K N : ℕ) → E * N ≤ s * K * N + 2 * k * (s * K) + 2 * k * (K * N) + E → Y * N ≤ p * K * N + Y + K * N
    → (s + p) * N ≤ s' * 1 * N + (s + p) + 1 * N → s ≤ s' → p ≤ s'
    → (E + Y) * N ≤ s' * K * N + 2 * suc k * (s' * K) + 2 * suc k * (K * N) + (E + Y)
joined E Y s p s' k K N a b c l m =
    let x = mul-le-mul_right K c in
    let y = mul-le-mul_right K l in
    let z = mul-le-mul_right K m in
    let w = mul-le-mul_left (2 * k) y in
    omega arith

self : (s : Bool) → unlike s s ≡ false
self true = refl
self false = refl

pub own : {v : ℕ → Float} {k : ℕ} → Vec 40 k v → (j : ℕ) → j < k → Within binary64 (2 ^ 1154) (mul binary64 (v j) (v j))
own p j l = mul_within 1114 1114 1154 (lit≤ tt) (lit< tt) (p.each j l) (p.each j l)

pub own_size : {v : ℕ → Float} {k : ℕ} → Vec 40 k v → (j : ℕ) → j < k → Size binary64 (mul binary64 (v j) (v j))
own_size {v} p j l = record { number = finite_number (own p j l).ends; plus = (mul-units (p.each j l).ends (p.each j l).ends).signed ∙ self (sign (v j)) }

short : (o n m : ℕ) → m < o → m ≡ min o n → m ≡ n
short o n m h e = omega arith

pub dot_within : (v : ℕ → Float) (k : ℕ) → k ≤ 256 → Vec 40 k v → Within binary64 (k * 2 ^ 1154) (dot v v k)
dot_within v k h p =
    sum_within binary64 (λ (j : ℕ). mul binary64 (v j) (v j)) 1154 k (λ j l. own p j l) (lt_of_le_of_lt h (lit< tt))
    (lt_of_le_of_lt (mul-le-mul_right (2 ^ 1154) h) (lit< tt))

pub summed : (v : ℕ → Float) (k : ℕ) → k ≤ 256 → Vec 40 k v → Summed v k
unfolding total sum_from
summed v zero h p = record { by = lit≤ tt }
summed v (suc k) h p =
    let f = binary64 in
    let t : ℕ → Float = λ (j : ℕ). mul f (v j) (v j) in
    let ih = summed v k (le_trans (le-suc k) h) (fewer p) in
    let S = dot v v k in
    let a = dot_within v k (le_trans (le-suc k) h) (fewer p) in
    let b = own p k (lt-suc_self k) in
    let s = sum-size f t k (λ j l. own_size p j (le_trans l (le-suc k))) in
    let m : mag f (t k) ≡ grid f (mag f (v k) * mag f (v k)) (K * K) =
    short (overflow f) (grid f (mag f (v k) * mag f (v k)) (K * K)) (mag f (t k)) (finite_inside b.ends)
    (mul-units (p.each k (lt-suc_self k)).ends (p.each k (lt-suc_self k)).ends).size_is in
    let r = add-units a.ends b.ends (s.plus ∙ sym (own_size p k (lt-suc_self k)).plus) in
    let n : mag f (add f S (t k)) ≡ rnd f (mag f S + mag f (t k)) =
    short (overflow f) (rnd f (mag f S + mag f (t k))) (mag f (add f S (t k))) (finite_inside (dot_within v (suc k) h p).ends) r.size_is in
    let A : About (2 ^ prec f) (mag f (v k) * mag f (v k)) K (mag f (t k)) =
    subst (About (2 ^ prec f) (mag f (v k) * mag f (v k)) K) (sym m) (mul_about f (mag f (v k) * mag f (v k))) in
    let B : About (2 ^ prec f) (mag f S + mag f (t k)) 1 (mag f (add f S (t k))) =
    subst (About (2 ^ prec f) (mag f S + mag f (t k)) 1) (sym n) (rnd_about f (mag f S + mag f (t k))) in
    record {
      by = joined (squares v k) (sq (sizes v) k) (mag f S) (mag f (t k)) (mag f (add f S (t k))) k K (2 ^ 53) ih.by A.under B.under
          (sum_grows f t k (λ j l. own_size p j l)) (sum_ge f t (suc k) (λ j l. own_size p j l) k (lt-suc_self k));
    }

-- from 2 ^ 20 units on, that is 2 ^ -1054
little : (E T K k : ℕ) → k ≤ 256 → E * 2 ^ 53 ≤ T * 2 ^ 53 + 2 * k * T + 2 * k * (K * 2 ^ 53) + E → 2 ^ 20 * K ≤ T → 8 * E ≤ 9 * T
little E T K k h l g =
    let a = mul-le-mul_right T h in
    let b = mul-le-mul_right K h in
    omega arith

pub squares-most : (v : ℕ → Float) (k : ℕ) → k ≤ 256 → Vec 40 k v → 2 ^ 20 ≤ mag binary64 (dot v v k) → 8 * squares v k ≤ 9 * (mag binary64 (dot v v k) * K)
squares-most v k h p l = little (squares v k) (mag binary64 (dot v v k) * K) K k h (summed v k h p).by (mul-le-mul_right K l)

-- ---- each quotient by r
-- 8 (a + b)^2 <= 9 a^2 + 72 b^2
eight : (a b : ℕ) → 8 * ((a + b) * (a + b)) ≤ 9 * (a * a) + 72 * (b * b)
eight a b = let t = twice-product a (8 * b) in omega arith

-- g is x K / r, rounded
part : (g r x k N : ℕ) → 0 < N → 64 ≤ N → g * r * N ≤ x * k * N + x * k + r * N → 128 * (g * g * (r * r)) ≤ 153 * (x * x * (k * k)) + 1152 * (r * r)
part g r x k N P h l =
    let s = squared (g * r * N) (x * k * (N + 1) + r * N) (let w : g * r * N ≤ x * k * (N + 1) + r * N = omega arith in w) in
    let t = eight (x * k * (N + 1)) (r * N) in
    let u : 16 * ((N + 1) * (N + 1)) ≤ 17 * (N * N) = let m = mul-le-mul_right N h in omega arith in
    let v = mul-le-mul_left (x * k * (x * k)) u in
    le_of_mul-le-mul_right (let y : 128 * (g * g * (r * r)) * (N * N) ≤ (153 * (x * x * (k * k)) + 1152 * (r * r)) * (N * N) = omega arith in y) (mul-pos P P)

parts : (g x : ℕ → ℕ) (r c k : ℕ) → ((j : ℕ) → j < k → 128 * (sq g j * r) ≤ 153 * (sq x j * c) + 1152 * r)
    → 128 * (total (sq g) k * r) ≤ 153 * (total (sq x) k * c) + 1152 * (k * r)
unfolding total
parts g x r c zero h = omega arith
parts g x r c (suc k) h = join (total (sq g) k) (sq g k) (total (sq x) k) (sq x k) (parts g x r c k (λ j l. h j (le_trans l (le-suc k)))) (h k (lt-suc_self k))
  where
    join : (a b d e : ℕ) → 128 * (a * r) ≤ 153 * (d * c) + 1152 * (k * r) → 128 * (b * r) ≤ 153 * (e * c) + 1152 * r
        → 128 * ((a + b) * r) ≤ 153 * ((d + e) * c) + 1152 * (suc k * r)
    join a b d e s t = omega arith

-- 7 E <= 9 r r, so the quotients' squares sum to at most 2 c
whole_of : (S E T r c k : ℕ) → k ≤ 256 → 0 < r → 128 * (S * r) ≤ 153 * (E * c) + 1152 * (k * r) → 8 * E ≤ 9 * T → 7 * T ≤ 8 * r → 2 ^ 40 ≤ c → S ≤ 2 * c
whole_of S E T r c k h P a b d l =
    let e : 7 * E ≤ 9 * r = omega arith in
    let m = mul-le-mul_right c e in
    let n = mul-le-mul_right r h in
    let w = mul-le-mul_right r l in
    le_of_mul-le-mul_right (let y : S * r ≤ 2 * c * r = omega arith in y) P

cap_of : (o g m : ℕ) → m ≡ min o g → m ≤ g
cap_of o g m e = omega arith

pub total-le : (a b : ℕ → ℕ) (k : ℕ) → ((j : ℕ) → j < k → a j ≤ b j) → total a k ≤ total b k
unfolding total
total-le a b zero h = le_refl 0
total-le a b (suc k) h = add-le-add (total-le a b k (λ j l. h j (le_trans l (le-suc k)))) (h k (lt-suc_self k))

square-two : (X k : ℕ) → X ≤ 2 * (k * k) → X ≤ 2 * k * (2 * k)
square-two X k h = omega arith

-- r is about the square root of the computed sum of squares: 8 r r >= 7 d, which any square root that is right to 3 digits meets
pub record Root (d r : Float) : Type 0 where
  pub positive : Positive binary64 r
  pub near_enough : 7 * (mag binary64 d * K) ≤ 8 * (mag binary64 r * mag binary64 r)

pub normalised : (v : ℕ → Float) (k : ℕ) (r : Float) → k ≤ 256 → Vec 40 k v → 2 ^ 20 ≤ mag binary64 (dot v v k) → Root (dot v v k) r
    → Short k (λ (j : ℕ). div binary64 (v j) r)
normalised v k r h p l s =
    let f = binary64 in
    let R = mag f r in
    let g : ℕ → ℕ = λ (j : ℕ). grid f (mag f (v j)) R in
    let q : ℕ → Float = λ (j : ℕ). div f (v j) r in
    let R0 : 0 < R = s.positive.some in
    let all : 128 * (total (sq g) k * (R * R)) ≤ 153 * (squares v k * (K * K)) + 1152 * (k * (R * R)) =
    parts g (sizes v) (R * R) (K * K) k (λ j i. part (g j) R (mag f (v j)) K (2 ^ 53) (lit< tt) (lit≤ tt) (about f (mag f (v j)) R R0).above) in
    let most : total (sq g) k ≤ 2 * (K * K) = whole_of (total (sq g) k) (squares v k) (mag f (dot v v k) * K) (R * R) (K * K) k h (mul-pos R0 R0) all
    (squares-most v k h p l) s.near_enough (lit≤ tt) in
    let each : (j : ℕ) → j < k → mag f (q j) ≤ g j = λ j i. cap_of (overflow f) (g j) (mag f (q j))
    (div_any (p.each j i).ends s.positive.fin R0).size_is in
    let two : (j : ℕ) → j < k → mag f (q j) ≤ 2 ^ 1075 = λ j i. le_trans (each j i)
    (le_trans (root_le (g j) (2 * K) (square-two (sq g j) K (le_trans (total_ge (sq g) k j i) most))) (lit≤ tt)) in
    record {
      entries_in =
          record {
            each = λ j i. record {
              ends = inside_finite
                  (record { held = div-fits f (v j) r; num = (div_any (p.each j i).ends s.positive.fin R0).number }) (lt_of_le_of_lt (two j i) (lit< tt));
              most =
                  two j i;
            };
          };
      length_in = le_trans (total-le (sq (sizes q)) (sq g) k (λ j i. squared (mag f (q j)) (g j) (each j i))) most;
    }
