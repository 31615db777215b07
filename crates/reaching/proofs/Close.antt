-- Rounding with an absolute bound, subnormal results included.
use mathlib.Core.Path.{◌≡◌, sym, ap, ◌∙◌, subst}
use Prim.Native.Nat.{ℕ, ◌+◌, ◌-◌, ◌*◌, ◌/◌, ◌^◌, ◌≤◌, ◌<◌}
use native.Mathlib.Nat.{mul-one, mul-pos, mul-le-mul_right, le_of_mul-le-mul_right, div-lt_iff_lt-mul}
use native.Mathlib.Decide.{dec_le}
use native.Mathlib.Omega.{arith}
use lib.Pow.{pow_pos}
use lib.Ieee.{Format, prec, low, size}
use lib.Ieee.Digits.{size-le}
use lib.Ieee.Fits.{two, two-le_pos}
use lib.Ieee.Nearest.{closest}
use lib.Ieee.Order.{drop}
use lib.Ieee.Scale.{grid}
use Rattle.ieee.proofs.Ops.{rnd}
use Rattle.reaching.specs.Whole.{Near, About}
use Rattle.reaching.proofs.Near.{near, Half, closest-half}

about_near : {N a c g : ℕ} → Near N a c g → About N a c g
about_near p = record { above = let x = p.above in omega arith; under = let x = p.under in omega arith }

about_half : (N a c g : ℕ) → Half c a g → About N a c g
about_half N a c g h = record { above = let x = mul-le-mul_right N h.over in omega arith; under = let x = mul-le-mul_right N h.low_by in omega arith }

none : (z p : ℕ) → 0 < p → z ≤ p - 1 → z - p ≡ 0
none z p P h = omega arith

pub about : (f : Format) (a c : ℕ) → 0 < c → About (2 ^ prec f) (a * 2 ^ low f) c (grid f a c)
about f a c C = go (dec_le (2 ^ (prec f - 1) * c) (a * 2 ^ low f))
  where
    go : Dec (2 ^ (prec f - 1) * c ≤ a * 2 ^ low f) → About (2 ^ prec f) (a * 2 ^ low f) c (grid f a c)
    go (yes h) = about_near (near f a c C h)
    go (no h) =
        let n = a * 2 ^ low f in
        let l : n < 2 ^ (prec f - 1) * c = omega arith in
        let z : drop (prec f) n c ≡ 0 = none (size (n / c)) (prec f) (two-le_pos (prec f) (two f)) (size-le (n / c) (prec f - 1) ((div-lt_iff_lt-mul C).1 l)) in
        let e : closest n c ≡ grid f a c =
        sym (ap (λ (k : ℕ). closest n (c * 2 ^ k) * 2 ^ k) z ∙ mul-one (closest n (c * 1)) ∙ ap (closest n) (mul-one c)) in
        subst (About (2 ^ prec f) n c) e (about_half (2 ^ prec f) n c (closest n c) (closest-half n c C))

-- a product's units, over K
pub about_cancel : (N a c g K : ℕ) → 0 < K → About N (a * K) (c * K) g → About N a c g
about_cancel N a c g K P h = record {
  above = le_of_mul-le-mul_right (let x = h.above in let y : g * c * N * K ≤ (a * N + a + c * N) * K = omega arith in y) P;
  under = le_of_mul-le-mul_right (let x = h.under in let y : a * N * K ≤ (g * c * N + a + c * N) * K = omega arith in y) P;
}

pub mul_about : (f : Format) (n : ℕ) → About (2 ^ prec f) n (2 ^ low f) (grid f n (2 ^ low f * 2 ^ low f))
mul_about f n =
    let K = 2 ^ low f in
    about_cancel (2 ^ prec f) n K (grid f n (K * K)) K (pow_pos (low f)) (about f n (K * K) (mul-pos (pow_pos (low f)) (pow_pos (low f))))

-- a sum's: whole numbers of units
pub rnd_about : (f : Format) (n : ℕ) → About (2 ^ prec f) n 1 (rnd f n)
rnd_about f n =
    let K = 2 ^ low f in
    about_cancel (2 ^ prec f) n 1 (rnd f n) K (pow_pos (low f))
    (subst (λ (c : ℕ). About (2 ^ prec f) (n * K) c (rnd f n)) (let e : K ≡ 1 * K = omega arith in e) (about f n K (pow_pos (low f))))
