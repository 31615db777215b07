-- The order by magnitude is one of natural numbers: a value stands above another where its height is the larger.
use mathlib.Core.Path.{◌≡◌, sym, ◌∙◌}
use Prim.Native.Nat.{ℕ, suc}
use native.Mathlib.Nat.{le_refl, le-suc, lt-suc_self}
use native.Mathlib.Omega.{arith}
use lib.Dec.{T, ltb}
use lib.Ieee.{Float, nan, inf, fin, Format, fits, is_nan, lt, below}
use lib.Ieee.Scale.{overflow}
use Rattle.ieee.specs.Units.{mag}
use Rattle.ieee.specs.Magnitude.{abs_of, above_of}
use Rattle.ieee.proofs.Units.{mag-le}
use Rattle.ieee.proofs.Ranks.{ltb_yes, ltb_no, lt_is, Number}
use Rattle.ieee.proofs.Sums.{abs_mag, abs_size}

-- the magnitude in units, and for a NaN one more than an infinity's
abbrev pub height : Format → Float → ℕ
height f nan = suc (overflow f)
height f (inf s) = overflow f
height f (fin s m e) = mag f (fin s m e)

numbers : {f : Format} {a b : Float} → Number f a → Number f b → lt (abs_of b) (abs_of a) ≡ ltb (mag f b) (mag f a)
numbers {f} {a} {b} p q =
    let x = abs_size p in
    let y = abs_size q in
    lt_is f (abs_of b) (abs_of a) y.number.held x.number.held y.number.num x.number.num
    ∙ (λ i. below (y.plus i) (abs_mag f b i) (x.plus i) (abs_mag f a i))

pub above_is : (f : Format) (a b : Float) → T (fits f a) → T (fits f b) → above_of a b ≡ ltb (height f b) (height f a)
unfolding above_of is_nan
above_is f nan nan p q = sym (ltb_no (suc (overflow f)) (suc (overflow f)) (le_refl (suc (overflow f))))
above_is f nan (inf t) p q = sym (ltb_yes (overflow f) (suc (overflow f)) (lt-suc_self (overflow f)))
above_is f nan (fin t n d) p q = sym (ltb_yes (mag f (fin t n d)) (suc (overflow f)) (let l = mag-le f (fin t n d) q in omega arith))
above_is f (inf s) nan p q = unfold lt in sym (ltb_no (suc (overflow f)) (overflow f) (le-suc (overflow f)))
above_is f (inf s) (inf t) p q = numbers {f = f} {a = inf s} {b = inf t} (record { held = p; num = tt }) (record { held = q; num = tt })
above_is f (inf s) (fin t n d) p q = numbers {f = f} {a = inf s} {b = fin t n d} (record { held = p; num = tt }) (record { held = q; num = tt })
above_is f (fin s m e) nan p q = unfold lt in sym (ltb_no (suc (overflow f)) (mag f (fin s m e)) (let l = mag-le f (fin s m e) p in omega arith))
above_is f (fin s m e) (inf t) p q = numbers {f = f} {a = fin s m e} {b = inf t} (record { held = p; num = tt }) (record { held = q; num = tt })
above_is f (fin s m e) (fin t n d) p q = numbers {f = f} {a = fin s m e} {b = fin t n d} (record { held = p; num = tt }) (record { held = q; num = tt })
