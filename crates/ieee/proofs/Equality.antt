-- Where `Alike` is equality: off zero.
use mathlib.Core.Path.{◌≡◌, refl, sym, ap, ◌∙◌, subst}
use Prim.Native.Nat.{zero, suc, ◌+◌}
use native.Mathlib.Omega.{arith}
use mathlib.Core.Bool.{Bool, not}
use lib.IntN.{pos}
use lib.Dec.{T}
use lib.Pow.{pow_pos}
use lib.Ieee.{Float, nan, inf, fin, Format, fits, low, emax}
use Rattle.ieee.specs.Flat.{flat, Alike, is_zero}
use Rattle.ieee.specs.Magnitude.{signum_of}
use Rattle.ieee.specs.Units.{mag, is_num}
use Rattle.ieee.proofs.Units.{unique}
use Rattle.ieee.proofs.Signs.{mag-nought, nought, nought-finite}

pub alike_nonzero : {x y : Float} → Alike x y → T (not (is_zero x)) → x ≡ y
alike_nonzero {x} {y} p h = go x y p.flatly h
  where
    back : (y x : Float) → flat x ≡ flat y → T (not (is_zero x)) → T (not (is_zero y))
    back y x e h = subst (λ (b : Bool). T (not b)) (through x ∙ ap is_zero e ∙ sym (through y)) h
      where
        through : (x : Float) → is_zero x ≡ is_zero (flat x)
        through nan = refl
        through (inf s) = refl
        through (fin s zero e) = refl
        through (fin s (suc m) e) = refl

    keep : (x : Float) → T (not (is_zero x)) → flat x ≡ x
    keep nan h = refl
    keep (inf s) h = refl
    keep (fin s zero e) h = absurd h
    keep (fin s (suc m) e) h = refl

    go : (x y : Float) → flat x ≡ flat y → T (not (is_zero x)) → x ≡ y
    go x y e h = sym (keep x h) ∙ e ∙ keep y (back y x e h)

-- x == y, and x <= y <= x
flat_zero : (f : Format) (x : Float) → T (fits f x) → T (is_num x) → mag f x ≡ 0 → flat x ≡ nought
flat_zero f nan p n h = absurd n
flat_zero f (inf s) p n h = let g = pow_pos (low f + suc (emax f)) in let z : ⊥ = omega arith in absurd z
flat_zero f (fin s m e) p n h = ap flat (unique f (fin s m e) (fin s 0 (pos 0)) p (nought-finite f s).held tt tt refl (h ∙ sym (mag-nought f s)))

-- the sign of a value that is not a zero
pub signum_alike : {x y : Float} → Alike x y → T (not (is_zero x)) → signum_of x ≡ signum_of y
signum_alike p h = ap signum_of (alike_nonzero p h)
