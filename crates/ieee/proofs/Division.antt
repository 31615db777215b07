-- 1.0 as a value of the format, and the quotient of a value by its own magnitude, which is exact.
use mathlib.Core.Path.{◌≡◌, refl, sym, ap, ◌∙◌, subst}
use Prim.Native.Nat.{ℕ, ◌*◌, ◌^◌, ◌<◌, min}
use native.Mathlib.Nat.{mul_comm, one-mul, div-one}
use mathlib.Core.Bool.{Bool, false}
use lib.IntN.{pos}
use lib.Pow.{pow_pos}
use lib.Ieee.{Float, fin, Format, div, fits, binary64, low, binary32, of_bits}
use lib.Ieee.Fits.{div-fits}
use lib.Ieee.Scale.{overflow, grid}
use Rattle.ieee.specs.Magnitude.{abs_of}
use Rattle.ieee.specs.Units.{sign, mag}
use Rattle.ieee.proofs.Units.{unique}
use Rattle.ieee.proofs.Ranks.{Number}
use Rattle.ieee.proofs.Ops.{Finite, Positive, div-units, finite_inside, finite_number, grid_same, min_inside}
use Rattle.ieee.proofs.Signs.{one-units}
use Rattle.ieee.proofs.Sums.{abs_finite, abs_mag, abs_size}

-- 1.0
abbrev pub unit : Float
unit = fin false 1 (pos 0)

pub unit_is : of_bits binary64 0x3ff0_0000_0000_0000 ≡ unit
unfolding of_bits
unit_is = refl

pub unit-mag : (f : Format) → mag f unit ≡ 2 ^ low f
unit-mag f = div-one (1 * 2 ^ low f) ∙ one-mul (2 ^ low f)

pub unit_number : (f : Format) → Number f unit
unit_number binary32 = record { held = unfold fits in tt; num = tt }
unit_number binary64 = record { held = unfold fits in tt; num = tt }

pub unit-finite : (f : Format) → Finite f unit
unit-finite binary32 = record { held = unfold fits in tt; ends = tt }
unit-finite binary64 = record { held = unfold fits in tt; ends = tt }

pub signed-unit : (f : Format) (s : Bool) → Finite f (fin s 1 (pos 0))
signed-unit binary32 s = record { held = unfold fits in tt; ends = tt }
signed-unit binary64 s = record { held = unfold fits in tt; ends = tt }

-- w / |w| is 1.0 with w's sign
pub over_itself : {f : Format} {w : Float} → Finite f w → 0 < mag f w → div f w (abs_of w) ≡ fin (sign w) 1 (pos 0)
over_itself {f} {w} p h =
    let s = abs_size (finite_number p) in
    let q : Positive f (abs_of w) = record { fin = abs_finite p; plus = s.plus; some = subst (λ (z : ℕ). 0 < z) (sym (abs_mag f w)) h } in
    let r = div-units p q in
    let u = finite_inside (unit-finite f) in
    unique f (div f w (abs_of w)) (fin (sign w) 1 (pos 0)) (div-fits f w (abs_of w)) (signed-unit f (sign w)).held r.number tt r.signed
    (r.size_is
    ∙ ap (λ (z : ℕ). min (overflow f) (grid f (mag f w) z)) (abs_mag f w)
    ∙ ap (min (overflow f)) (grid_same f (mag f w) (mag f w) 1 1 h (pow_pos 0) (mul_comm (mag f w) 1) ∙ one-units f ∙ sym (unit-mag f))
    ∙ min_inside (overflow f) (mag f unit) u)
