-- A minus goes through a product, and through rounding.
use Prim.Native.Nat.{ℕ, zero, suc, ◌+◌, ◌*◌, ◌^◌}
use mathlib.Core.Path.{◌≡◌, refl, ap, ◌∙◌}
use mathlib.Core.Bool.{Bool, true, false, not, cond}
use lib.Dec.{ltb, eqb}
use lib.Ieee.{Float, nan, inf, fin, Format, prec, emax, low, up, down, unlike, units, odd, round, neg, mul}
use Rattle.ieee.proofs.Ops.{mul_commutes}

pub not_unlike : (s t : Bool) → unlike (not s) t ≡ not (unlike s t)
not_unlike true true = refl
not_unlike true false = refl
not_unlike false true = refl
not_unlike false false = refl

not_not : (s : Bool) → not (not s) ≡ s
not_not true = refl
not_not false = refl

pub neg-neg : (x : Float) → neg (neg x) ≡ x
unfolding neg
neg-neg nan = refl
neg-neg (inf s) = ap inf (not_not s)
neg-neg (fin s m e) = ap (λ (z : Bool). fin z m e) (not_not s)

units-neg : (f : Format) (s : Bool) (q k : ℕ) → units f (not s) q k ≡ neg (units f s q k)
unfolding units odd neg
units-neg f s q k = go (ltb (q * 2 ^ k) (2 ^ (low f + suc (emax f)))) q
  where
    go : (t : Bool) (q : ℕ) → cond t (odd (suc (prec f)) (not s) q k (low f)) (inf (not s)) ≡ neg (cond t (odd (suc (prec f)) s q k (low f)) (inf s))
    go true zero = refl
    go true (suc q) = refl
    go false q = refl

-- rounding goes by the magnitude alone
pub round-neg : (f : Format) (s : Bool) (a c : ℕ) → round f (not s) a c ≡ neg (round f s a c)
unfolding round
round-neg f s a c = units-neg f s _ _

pub neg-times : (f : Format) (x y : Float) → mul f (neg x) y ≡ neg (mul f x y)
unfolding mul neg
neg-times f nan y = refl
neg-times f (inf s) nan = refl
neg-times f (inf s) (inf t) = ap inf (not_unlike s t)
neg-times f (inf s) (fin t n d) = go (eqb n 0)
  where
    go : (u : Bool) → cond u nan (inf (unlike (not s) t)) ≡ neg (cond u nan (inf (unlike s t)))
    go true = refl
    go false = ap inf (not_unlike s t)
neg-times f (fin s m e) nan = refl
neg-times f (fin s m e) (inf t) = go (eqb m 0)
  where
    go : (u : Bool) → cond u nan (inf (unlike (not s) t)) ≡ neg (cond u nan (inf (unlike s t)))
    go true = refl
    go false = ap inf (not_unlike s t)
neg-times f (fin s m e) (fin t n d) =
    ap (λ (z : Bool). round f z (m * up e * (n * up d)) (down e * down d)) (not_unlike s t) ∙ round-neg f (unlike s t) _ _

pub times-neg : (f : Format) (x y : Float) → mul f x (neg y) ≡ neg (mul f x y)
times-neg f x y = mul_commutes f x (neg y) ∙ neg-times f y x ∙ ap neg (mul_commutes f y x)
