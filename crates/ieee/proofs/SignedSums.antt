-- A sum of two values of any signs, in units.
use mathlib.Core.Path.{◌≡◌, sym, ap, ◌∙◌, subst}
use Prim.Native.Nat.{ℕ, ◌+◌, ◌-◌, ◌*◌, ◌^◌, ◌<◌}
use native.Mathlib.Nat.{mul_assoc, mul_comm, mul-pos, mul_right_comm, mul-sub}
use mathlib.Core.Bool.{Bool, true, false, ◌&&◌, beq, cond}
use lib.Dec.{T, ltb}
use lib.Pow.{pow_pos}
use lib.Ieee.{Float, nan, inf, fin, Format, round, add, fits, low, up, down, sum}
use lib.Ieee.Fits.{down_pos}
use lib.Ieee.Scale.{finite}
use Rattle.ieee.specs.Units.{sign, mag}
use Rattle.ieee.proofs.Grid.{Rounded}
use Rattle.ieee.proofs.Units.{ltb_is, units}
use Rattle.ieee.proofs.Ops.{Finite, both-units, opened, rnd, round-units}

-- ---- a sum of any two finite values
abbrev pub sum_sign : Bool → ℕ → Bool → ℕ → Bool
sum_sign s x t y = cond (beq s t) s (cond (ltb x y) t (s && ltb y x))

abbrev pub sum_size : Bool → ℕ → Bool → ℕ → ℕ
sum_size s x t y = cond (beq s t) (x + y) (cond (ltb x y) (y - x) (x - y))

less-units : (a b c d x y K : ℕ) → a * K ≡ x * c → b * K ≡ y * d → (a * d - b * c) * K ≡ (x - y) * (c * d)
less-units a b c d x y K p q =
    mul_comm (a * d - b * c) K ∙ mul-sub K (a * d) (b * c)
    ∙ ap (λ (z : ℕ). z - K * (b * c)) (mul_comm K (a * d) ∙ mul_right_comm a d K ∙ ap (λ (z : ℕ). z * d) p ∙ mul_assoc x c d ∙ mul_comm x (c * d))
    ∙ ap (λ (z : ℕ). c * d * x - z) (mul_comm K (b * c) ∙ mul_right_comm b c K ∙ ap (λ (z : ℕ). z * c) q ∙ mul_assoc y d c ∙ ap
    (λ (z : ℕ). y * z) (mul_comm d c) ∙ mul_comm y (c * d))
    ∙ sym (mul-sub (c * d) x y) ∙ mul_comm (c * d) (x - y)

sum_rounded : (f : Format) (s t : Bool) (a b c d x y : ℕ) → 0 < c → 0 < d → a * 2 ^ low f ≡ x * c → b * 2 ^ low f ≡ y * d
    → Rounded f (sum_sign s x t y) (rnd f (sum_size s x t y)) (sum f s (a * d) t (b * c) (c * d))
unfolding sum
sum_rounded f s t a b c d x y C D p q =
    subst (λ (u : Bool). Rounded f (sum_sign s x t y) (rnd f (sum_size s x t y))
    (cond (beq s t) (round f s (a * d + b * c) (c * d))
    (cond u (round f t (b * c - a * d) (c * d)) (round f (s && ltb (b * c) (a * d)) (a * d - b * c) (c * d)))))
    (sym (ltb_is a b c d x y (2 ^ low f) (pow_pos (low f)) C D p q))
    (subst (λ (u : Bool). Rounded f (sum_sign s x t y) (rnd f (sum_size s x t y))
    (cond (beq s t) (round f s (a * d + b * c) (c * d))
    (cond (ltb x y) (round f t (b * c - a * d) (c * d)) (round f (s && u) (a * d - b * c) (c * d)))))
    (sym (ltb_is b a d c y x (2 ^ low f) (pow_pos (low f)) D C q p))
    (go (beq s t) (ltb x y) (ltb y x)))
  where
    go : (u v w : Bool) → Rounded f (cond u s (cond v t (s && w))) (rnd f (cond u (x + y) (cond v (y - x) (x - y))))
        (cond u (round f s (a * d + b * c) (c * d))
        (cond v (round f t (b * c - a * d) (c * d)) (round f (s && w) (a * d - b * c) (c * d))))
    go true v w = round-units f s (a * d + b * c) (c * d) (x + y) (mul-pos C D) (both-units a b c d x y (2 ^ low f) p q)
    go false true w = round-units f t (b * c - a * d) (c * d) (y - x) (mul-pos C D)
        (less-units b a d c y x (2 ^ low f) q p ∙ ap (λ (z : ℕ). (y - x) * z) (mul_comm d c))
    go false false w = round-units f (s && w) (a * d - b * c) (c * d) (x - y) (mul-pos C D) (less-units a b c d x y (2 ^ low f) p q)

pub add_rounded : {f : Format} {x y : Float} → Finite f x → Finite f y → Rounded f (sum_sign (sign x) (mag f x) (sign y) (mag f y))
    (rnd f (sum_size (sign x) (mag f x) (sign y) (mag f y))) (add f x y)
add_rounded {f} {x} {y} p q = go x y p.held p.ends q.held q.ends
  where
    go : (x y : Float) → T (fits f x) → T (finite x) → T (fits f y) → T (finite y) → Rounded f
        (sum_sign (sign x) (mag f x) (sign y) (mag f y)) (rnd f (sum_size (sign x) (mag f x) (sign y) (mag f y))) (add f x y)
    go nan y p t q u = absurd t
    go (inf s) y p t q u = absurd t
    go (fin s m i) nan p t q u = absurd u
    go (fin s m i) (inf r) p t q u = absurd u
    go (fin s m i) (fin r n d) p t q u =
        subst (λ (z : Float). Rounded f (sum_sign s (mag f (fin s m i)) r (mag f (fin r n d)))
        (rnd f (sum_size s (mag f (fin s m i)) r (mag f (fin r n d)))) z) (sym (opened f s m i r n d))
        (sum_rounded f s r (m * up i) (n * up d) (down i) (down d) (mag f (fin s m i)) (mag f (fin r n d)) (down_pos i)
        (down_pos d) (units f s m i p).cross (units f r n d q).cross)
