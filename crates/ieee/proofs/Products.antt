-- Products in units: by a factor of at most 1, and by 1.0.
use mathlib.Core.Path.{◌≡◌, refl, sym, ap, ◌∙◌, subst}
use Prim.Native.Nat.{ℕ, ◌*◌, ◌^◌, ◌≤◌, ◌<◌, min}
use native.Mathlib.Nat.{le_trans, mul-one, le_of_eq, lt_of_le_of_lt, mul_assoc, mul_comm, mul-mul-mul_comm, mul-pos, mul-le-mul_left, mul-le-mul_right}
use mathlib.Core.Bool.{Bool, true, false}
use lib.IntN.{ℤ, pos}
use lib.Dec.{T, lit<}
use lib.Pow.{pow_pos}
use lib.Ieee.{Float, nan, inf, fin, Format, round, mul, fits, low, up, down, unlike}
use lib.Ieee.Fits.{down_pos, mul-fits}
use lib.Ieee.Scale.{overflow, finite, grid}
use Rattle.ieee.specs.Units.{sign, mag}
use Rattle.ieee.proofs.Grid.{Rounded, grid-le, rounded}
use Rattle.ieee.proofs.Units.{unique, units}
use Rattle.ieee.proofs.Ops.{Finite, finite_inside, grid_same, inside_finite, min_inside, rnd_fixed, round-units, under_cap, unlike_false}

mul_opened : (f : Format) (s : Bool) (m : ℕ) (i : ℤ) (r : Bool) (n : ℕ) (d : ℤ) → mul f (fin s m i) (fin r n d) ≡ round f
    (unlike s r) (m * up i * (n * up d)) (down i * down d)
unfolding mul
mul_opened f s m i r n d = refl

product-units : (a b c d x y K : ℕ) → a * K ≡ x * c → b * K ≡ y * d → a * b * (K * K) ≡ x * y * (c * d)
product-units a b c d x y K p q = mul-mul-mul_comm a b K K ∙ ap (λ (z : ℕ). z * (b * K)) p ∙ ap (λ (z : ℕ). x * c * z) q ∙ mul-mul-mul_comm x c y d

pub mul-units : {f : Format} {x y : Float} → Finite f x → Finite f y → Rounded f (unlike (sign x) (sign y))
    (grid f (mag f x * mag f y) (2 ^ low f * 2 ^ low f)) (mul f x y)
mul-units {f} {x} {y} p q = go x y p.held p.ends q.held q.ends
  where
    go : (x y : Float) → T (fits f x) → T (finite x) → T (fits f y) → T (finite y) → Rounded f (unlike (sign x) (sign y))
        (grid f (mag f x * mag f y) (2 ^ low f * 2 ^ low f)) (mul f x y)
    go nan y p t q u = absurd t
    go (inf s) y p t q u = absurd t
    go (fin s m i) nan p t q u = absurd u
    go (fin s m i) (inf r) p t q u = absurd u
    go (fin s m i) (fin r n d) p t q u =
        subst (λ (z : Float). Rounded f (unlike s r) (grid f (mag f (fin s m i) * mag f (fin r n d)) (2 ^ low f * 2 ^ low f)) z)
        (sym (mul_opened f s m i r n d))
        (subst (λ (z : ℕ). Rounded f (unlike s r) z (round f (unlike s r) (m * up i * (n * up d)) (down i * down d)))
        (grid_same f (m * up i * (n * up d)) (down i * down d) (mag f (fin s m i) * mag f (fin r n d)) (2 ^ low f * 2 ^ low f)
        (mul-pos (down_pos i) (down_pos d)) (mul-pos (pow_pos (low f)) (pow_pos (low f)))
        (product-units (m * up i) (n * up d) (down i) (down d) (mag f (fin s m i)) (mag f (fin r n d)) (2 ^ low f)
        (units f s m i p).cross (units f r n d q).cross))
        (rounded f (unlike s r) (m * up i * (n * up d)) (down i * down d)))

-- a factor of at most 1 makes nothing larger
pub mul-at-most : {f : Format} {x y : Float} → Finite f x → Finite f y → mag f x ≤ 2 ^ low f → mag f (mul f x y) ≤ mag f y
mul-at-most {f} {x} {y} p q h =
    let K = 2 ^ low f in
    under_cap (overflow f) (mag f y) (grid f (mag f x * mag f y) (K * K)) (mag f (mul f x y))
    (le_trans (grid-le f (mag f x * mag f y) (K * K) (mag f y) K (mul-pos (pow_pos (low f)) (pow_pos (low f))) (pow_pos (low f))
    (le_trans (mul-le-mul_right K (mul-le-mul_right (mag f y) h)) (le_of_eq (ap (λ (z : ℕ). z * K) (mul_comm K (mag f y)) ∙ mul_assoc (mag f y) K K))))
    (le_of_eq (rnd_fixed q)))
    (mul-units p q).size_is

pub mul-finite : {f : Format} {x y : Float} → Finite f x → Finite f y → mag f x ≤ 2 ^ low f → Finite f (mul f x y)
mul-finite {f} {x} {y} p q h = inside_finite (record { held = mul-fits f x y; num = (mul-units p q).number })
    (lt_of_le_of_lt (mul-at-most p q h) (finite_inside q))

-- ---- x * 1.0
one_opened : (f : Format) (s : Bool) (m : ℕ) (e : ℤ) → mul f (fin s m e) (fin false 1 (pos 0)) ≡ round f (unlike s false) (m * up e * 1) (down e * 1)
unfolding mul
one_opened f s m e = refl

pub times-one : (f : Format) (x : Float) → T (fits f x) → mul f x (fin false 1 (pos 0)) ≡ x
times-one f nan p = unfold mul in refl
times-one f (inf s) p = unfold mul in infs s
  where
    infs : (s : Bool) → inf (unlike s false) ≡ inf s
    infs true = refl
    infs false = refl
times-one f (fin s m e) p =
    let o = one_opened f s m e ∙ ap (λ (z : Bool). round f z (m * up e * 1) (down e * 1)) (unlike_false s) in
    let c = (units f s m e p).cross in
    let r = round-units f s (m * up e * 1) (down e * 1) (mag f (fin s m e)) (mul-pos (down_pos e) (pow_pos 0))
    (ap (λ (z : ℕ). z * 2 ^ low f) (mul-one (m * up e)) ∙ c ∙ ap (λ (z : ℕ). mag f (fin s m e) * z) (sym (mul-one (down e)))) in
    let q : Finite f (fin s m e) = record { held = p; ends = tt } in
    o ∙ unique f (round f s (m * up e * 1) (down e * 1)) (fin s m e)
    (subst (λ (z : Float). T (fits f z)) o (mul-fits f (fin s m e) (fin false 1 (pos 0)))) p r.number tt r.signed
    (r.size_is ∙ ap (min (overflow f)) (rnd_fixed q) ∙ min_inside (overflow f) (mag f (fin s m e)) (finite_inside q))

-- |w| <= 2 ^ 1000
small : (n : ℕ) → n ≤ 2 ^ 2074 → 2 * n < 2 ^ 2098
small n h = lt_of_le_of_lt (mul-le-mul_left 2 h) (lit< tt)
