-- The operations of a step in units: a difference, a quotient by any value but zero; and each as a fraction but for 1 / 2 ^ prec of it.
use mathlib.Core.Path.{◌≡◌, refl, sym, ap, ◌∙◌, subst}
use Prim.Native.Nat.{ℕ, zero, suc, ◌+◌, ◌-◌, ◌*◌, ◌/◌, ◌^◌, ◌≤◌, ◌<◌}
use native.Mathlib.Nat.{eq_of_mul-eq-mul_right, zero-div, le_trans, le_of_eq, mul-pos, mul_assoc, mul-le-mul_right, le_of_mul-le-mul_right}
use native.Mathlib.Omega.{arith}
use mathlib.Core.Bool.{Bool, true, false, not, cond}
use lib.IntN.{ℤ}
use lib.Dec.{T, eqb, eqb→eq}
use lib.Pow.{pow_pos}
use lib.Ieee.{Float, nan, inf, fin, Format, prec, low, up, down, unlike, round, neg, add, sub, div, fits}
use lib.Ieee.Fits.{up_pos, down_pos, neg-fits}
use lib.Ieee.Scale.{grid, finite}
use Rattle.ieee.specs.Units.{sign, mag}
use Rattle.ieee.proofs.Grid.{Rounded, rounded}
use Rattle.ieee.proofs.Units.{units}
use Rattle.ieee.proofs.Ops.{Finite, rnd, grid_same}
use Rattle.ieee.proofs.SignedSums.{sum_sign, sum_size, add_rounded}
use Rattle.reaching.specs.Whole.{Near}
use Rattle.reaching.proofs.Near.{near}

-- ---- a quotient by any value but zero

-- (a / c) / (b / d) is x / y
crossed : (a b c d x y K : ℕ) → 0 < K → a * K ≡ x * c → b * K ≡ y * d → a * d * y ≡ x * (b * c)
crossed a b c d x y K k p q =
    eq_of_mul-eq-mul_right K k (a * d * y) (x * (b * c))
    (let l : a * d * y * K ≡ a * K * (y * d) = omega arith in
    let r : x * c * (b * K) ≡ x * (b * c) * K = omega arith in
    l ∙ ap (λ (z : ℕ). z * (y * d)) p ∙ ap (λ (z : ℕ). x * c * z) (sym q) ∙ r)

-- a divisor of some units has a numerator
some-units : (f : Format) (s : Bool) (n : ℕ) (d : ℤ) → 0 < mag f (fin s n d) → 0 < n
some-units f s zero d h =
    let e : 0 * up d * 2 ^ low f ≡ 0 = omega arith in
    let z : 0 < 0 = subst (λ (x : ℕ). 0 < x) (ap (λ (x : ℕ). x / down d) e ∙ zero-div (down d)) h in
    absurd (let w : ⊥ = omega arith in w)
some-units f s (suc n) d h = omega arith

div_opened : (f : Format) (s : Bool) (m : ℕ) (e : ℤ) (t : Bool) (n : ℕ) (d : ℤ) → 0 < n
    → div f (fin s m e) (fin t n d) ≡ round f (unlike s t) (m * up e * down d) (n * up d * down e)
unfolding div
div_opened f s m e t n d h = go (eqb n 0) (λ t. let z : n ≡ 0 = eqb→eq n 0 t in let k : ⊥ = omega arith in k)
  where
    there : Float
    there = round f (unlike s t) (m * up e * down d) (n * up d * down e)

    go : (b : Bool) → (T b → ⊥) → cond b (cond (eqb m 0) nan (inf (unlike s t))) there ≡ there
    go true h = absurd (h tt)
    go false h = refl

pub div_any : {f : Format} {x y : Float} → Finite f x → Finite f y → 0 < mag f y → Rounded f (unlike (sign x) (sign y)) (grid f (mag f x) (mag f y)) (div f x y)
div_any {f} {x} {y} p q = go x y p.held p.ends q.held q.ends
  where
    go : (x y : Float) → T (fits f x) → T (finite x) → T (fits f y) → T (finite y) → 0 < mag f y
        → Rounded f (unlike (sign x) (sign y)) (grid f (mag f x) (mag f y)) (div f x y)
    go nan y p t q u h = absurd t
    go (inf s) y p t q u h = absurd t
    go (fin s m i) nan p t q u h = absurd u
    go (fin s m i) (inf r) p t q u h = absurd u
    go (fin s m i) (fin r n d) p t q u h =
        subst (λ (z : Float). Rounded f (unlike s r) (grid f (mag f (fin s m i)) (mag f (fin r n d))) z) (sym (div_opened f s m i r n d (some-units f r n d h)))
        (subst (λ (z : ℕ). Rounded f (unlike s r) z (round f (unlike s r) (m * up i * down d) (n * up d * down i)))
        (grid_same f (m * up i * down d) (n * up d * down i) (mag f (fin s m i)) (mag f (fin r n d))
        (mul-pos (mul-pos (some-units f r n d h) (up_pos d)) (down_pos i)) h
        (crossed (m * up i) (n * up d) (down i) (down d) (mag f (fin s m i)) (mag f (fin r n d)) (2 ^ low f) (pow_pos (low f))
        (units f s m i p).cross (units f r n d q).cross))
        (rounded f (unlike s r) (m * up i * down d) (n * up d * down i)))

-- ---- a difference
pub record Negated (f : Format) (x z : Float) : Type 0 where
  pub ends : Finite f z
  pub sign_is : sign z ≡ not (sign x)
  pub mag_is : mag f z ≡ mag f x

pub negated : {f : Format} {x : Float} → Finite f x → Negated f x (neg x)
unfolding neg
negated {f} {x} p = go x p.held p.ends
  where
    go : (x : Float) → T (fits f x) → T (finite x) → Negated f x (neg x)
    go nan h t = absurd t
    go (inf s) h t = absurd t
    go (fin s m e) h t =
        record { ends = record { held = neg-fits f (fin s m e) h; ends = tt }; sign_is = refl; mag_is = refl }

sub_is : (f : Format) (x y : Float) → sub f x y ≡ add f x (neg y)
unfolding sub
sub_is f x y = refl

pub sub_rounded : {f : Format} {x y : Float} → Finite f x → Finite f y
    → Rounded f (sum_sign (sign x) (mag f x) (not (sign y)) (mag f y)) (rnd f (sum_size (sign x) (mag f x) (not (sign y)) (mag f y))) (sub f x y)
sub_rounded {f} {x} {y} p q =
    let n = negated q in
    subst (λ (z : Float). Rounded f (sum_sign (sign x) (mag f x) (not (sign y)) (mag f y))
    (rnd f (sum_size (sign x) (mag f x) (not (sign y)) (mag f y))) z) (sym (sub_is f x y))
    (subst (λ (m : ℕ). Rounded f (sum_sign (sign x) (mag f x) (not (sign y)) m) (rnd f (sum_size (sign x) (mag f x) (not (sign y)) m))
    (add f x (neg y))) n.mag_is
    (subst (λ (b : Bool). Rounded f (sum_sign (sign x) (mag f x) b (mag f (neg y))) (rnd f (sum_size (sign x) (mag f x) b (mag f (neg y))))
    (add f x (neg y))) n.sign_is (add_rounded p n.ends)))

-- ---- the relative error of each
pub near_cancel : (N a c g K : ℕ) → 0 < K → Near N (a * K) (c * K) g → Near N a c g
near_cancel N a c g K P h = record {
  above = le_of_mul-le-mul_right (let x = h.above in let y : g * c * N * K ≤ (a * N + a) * K = omega arith in y) P;
  under = le_of_mul-le-mul_right (let x = h.under in let y : a * N * K ≤ (g * c * N + a) * K = omega arith in y) P;
}

one-times : (K : ℕ) → 1 * K ≡ K
one-times K = omega arith

-- a whole number of units
pub rnd_near : (f : Format) (n : ℕ) → 2 ^ (prec f - 1) ≤ n → Near (2 ^ prec f) n 1 (rnd f n)
rnd_near f n h =
    let K = 2 ^ low f in
    near_cancel (2 ^ prec f) n 1 (rnd f n) K (pow_pos (low f))
    (subst (λ (c : ℕ). Near (2 ^ prec f) (n * K) c (rnd f n)) (sym (one-times K)) (near f n K (pow_pos (low f)) (mul-le-mul_right K h)))

-- a product
pub mul_near : (f : Format) (n : ℕ) → 2 ^ (prec f - 1) * 2 ^ low f ≤ n → Near (2 ^ prec f) n (2 ^ low f) (grid f n (2 ^ low f * 2 ^ low f))
mul_near f n h =
    let K = 2 ^ low f in
    near_cancel (2 ^ prec f) n K (grid f n (K * K)) K (pow_pos (low f))
    (near f n (K * K) (mul-pos (pow_pos (low f)) (pow_pos (low f))) (le_trans (le_of_eq (sym (mul_assoc (2 ^ (prec f - 1)) K K))) (mul-le-mul_right K h)))
