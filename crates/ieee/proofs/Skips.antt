-- A product by a zero is a zero, where the other factor is finite.
use mathlib.Core.Path.{◌≡◌, sym, ap, ◌∙◌, subst}
use Prim.Native.Nat.{ℕ, zero, suc, ◌*◌}
use native.Mathlib.Nat.{mul-pos, zero-mul, mul-zero}
use lib.Dec.{T}
use lib.Ieee.{Float, nan, inf, fin, Format, round, mul, up, down, unlike}
use lib.Ieee.Fits.{down_pos}
use lib.Ieee.Scale.{finite}
use Rattle.ieee.specs.Flat.{is_zero}
use Rattle.ieee.proofs.Flat.{round_zero}

zero_product : (m u n : ℕ) → m * u * (0 * n) ≡ 0
zero_product m u n = ap (λ (z : ℕ). m * u * z) (zero-mul n) ∙ mul-zero (m * u)

pub mul-by_zero : (f : Format) (x y : Float) → T (finite x) → T (is_zero y) → T (is_zero (mul f x y))
unfolding mul
mul-by_zero f nan y t z = absurd t
mul-by_zero f (inf s) y t z = absurd t
mul-by_zero f (fin s m e) nan t z = absurd z
mul-by_zero f (fin s m e) (inf r) t z = absurd z
mul-by_zero f (fin s m e) (fin r zero d) t z =
    subst (λ (x : Float). T (is_zero x))
    (sym (ap (λ (n : ℕ). round f (unlike s r) n (down e * down d)) (zero_product m (up e) (up d)) ∙ round_zero f (unlike s r)
    (down e * down d) (mul-pos (down_pos e) (down_pos d)))) tt
mul-by_zero f (fin s m e) (fin r (suc n) d) t z = absurd z
