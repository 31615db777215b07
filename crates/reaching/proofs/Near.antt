-- A rounded fraction is the fraction but for a small part of it, in the normal range; below that, but for half a unit.
use mathlib.Core.Path.{◌≡◌, sym, ap, ◌∙◌, subst}
use Prim.Native.Nat.{ℕ, zero, suc, ◌+◌, ◌-◌, ◌*◌, ◌/◌, ◌%◌, ◌^◌, ◌≤◌, ◌<◌, compare, Ordering}
use native.Mathlib.Nat.{le_trans, le_of_eq, mul_assoc, mul_right_comm, mul-le-mul_right, mul-pos, div-add-mod', mod-lt, le-div_iff_mul-le, pow-succ'}
use native.Mathlib.Omega.{arith}
use mathlib.Core.Bool.{not}
use lib.Dec.{T, is_le, compare_is_eq, eqb, leb→le, nleb→lt, eqb→eq, eqb_refl}
use lib.Arith.{lt_of_le-ne}
use lib.Pow.{pow-add, pow_pos}
use lib.Ieee.{Format, prec, low, size, nearest}
use lib.Ieee.Digits.{size_reaches}
use lib.Ieee.Fits.{two, two-le_pos}
use lib.Ieee.Nearest.{closest}
use lib.Ieee.Order.{drop, kept}
use lib.Ieee.Scale.{grid, normal_of_fraction}
use Rattle.reaching.specs.Whole.{Near}

-- ---- what `compare` says
abbrev Cmp : Ordering → ℕ → ℕ → Type 0
Cmp Ordering.lt a b = a < b
Cmp Ordering.eq a b = a ≡ b
Cmp Ordering.gt a b = b < a

cmp : (a b : ℕ) → Cmp (compare a b) a b
cmp a b = go (compare a b) (leb→le a b) (nleb→lt a b) (eqb→eq a b) (λ (e : a ≡ b). subst (λ (x : ℕ). T (eqb a x)) e (eqb_refl a))
  where
    go : (o : Ordering) → (T (is_le o) → a ≤ b) → (T (not (is_le o)) → b < a) → (T (compare_is_eq o) → a ≡ b) → (a ≡ b → T (compare_is_eq o)) → Cmp o a b
    go Ordering.lt h k e n = lt_of_le-ne (h tt) n
    go Ordering.eq h k e n = e tt
    go Ordering.gt h k e n = k tt

-- ---- the nearest whole number is off by half at most
pub record Half (u n w : ℕ) : Type 0 where
  pub over : w * u * 2 ≤ n * 2 + u
  pub low_by : n * 2 ≤ w * u * 2 + u

tie : (q u r b : ℕ) → b ≤ 1 → r * 2 ≡ u → Half u (q * u + r) (q + b)
tie q u r zero B e = record { over = omega arith; low_by = omega arith }
tie q u r (suc zero) B e = record { over = omega arith; low_by = omega arith }
tie q u r (suc (suc b)) B e = absurd (let z : ⊥ = omega arith in z)

half : (q u r : ℕ) (o : Ordering) → Cmp o (r * 2) u → r < u → Half u (q * u + r) (nearest q o)
half q u r Ordering.lt h l = record { over = omega arith; low_by = omega arith }
half q u r Ordering.eq h l = tie q u r (q % 2) (omega arith) h
half q u r Ordering.gt h l = record { over = omega arith; low_by = omega arith }

pub closest-half : (n u : ℕ) → 0 < u → Half u n (closest n u)
closest-half n u U =
    subst (λ (z : ℕ). Half u z (closest n u)) (div-add-mod' n u) (half (n / u) u (n % u) (compare (n % u * 2) u) (cmp (n % u * 2) u) (mod-lt n U))

-- ---- in the normal range the unit is 1 / 2 ^ (prec - 1) of the fraction at most
small : (w U n N g c : ℕ) → g * c ≡ w * U → Half U n w → U * N ≤ n * 2 → Near N n c g
small w U n N g c e h b =
    let E = ap (λ (z : ℕ). z * N) e in
    let o = mul-le-mul_right N h.over in
    let l = mul-le-mul_right N h.low_by in
    record { above = omega arith; under = omega arith }

room : (p z : ℕ) → 0 < p → p ≤ z → p - 1 + (z - p) < z
room p z P h = omega arith

back : (p : ℕ) → 0 < p → p ≡ suc (p - 1)
back p P = omega arith

unit : (c K H N n : ℕ) → N ≡ 2 * H → H * K * c ≤ n → c * K * N ≤ n * 2
unit c K H N n e h = rw e (omega arith)

pub near : (f : Format) (a c : ℕ) → 0 < c → 2 ^ (prec f - 1) * c ≤ a * 2 ^ low f → Near (2 ^ prec f) (a * 2 ^ low f) c (grid f a c)
near f a c C h =
    let p = prec f in
    let n = a * 2 ^ low f in
    let k = drop p n c in
    let P : 0 < p = two-le_pos p (two f) in
    let z = size (n / c) in
    let r : 2 ^ (p - 1 + k) * c ≤ n = (le-div_iff_mul-le C).0 (size_reaches (n / c) (p - 1 + k) (room p z P (normal_of_fraction f a c C h))) in
    small (kept p n c) (c * 2 ^ k) n (2 ^ p) (grid f a c) c
    (mul_right_comm (kept p n c) (2 ^ k) c ∙ mul_assoc (kept p n c) c (2 ^ k))
    (closest-half n (c * 2 ^ k) (mul-pos C (pow_pos k)))
    (unit c (2 ^ k) (2 ^ (p - 1)) (2 ^ p) n (ap (λ (y : ℕ). 2 ^ y) (back p P) ∙ pow-succ' 2 (p - 1))
    (le_trans (le_of_eq (ap (λ (y : ℕ). y * c) (sym (pow-add 2 (p - 1) k)))) r))
