-- What the tests for a finite and for a positive value say.
use mathlib.Core.Path.{◌≡◌, refl, sym, ap, ◌∙◌, subst}
use mathlib.Core.Bool.{Bool, true, false, not, ◌&&◌}
use lib.Dec.{T, ltb, ltb→lt, lt→ltb}
use lib.Ieee.{Float, Format, lt, fits}
use lib.Ieee.Fits.{and_l, and_r}
use lib.Ieee.Scale.{finite}
use Rattle.ieee.specs.Units.{sign, mag}
use Rattle.ieee.proofs.Ops.{Finite, Positive, finite_number}
use Rattle.ieee.proofs.Signs.{above_is, nought}

pub positive_of_tests : {f : Format} {x : Float} → T (fits f x) → T (finite x) → T (lt nought x) → Positive f x
positive_of_tests {f} {x} h t u =
    let p : Finite f x = record { held = h; ends = t } in
    let w : T (not (sign x) && ltb 0 (mag f x)) = subst T (above_is (finite_number p)) u in
    record { fin = p; plus = no (sign x) (and_l (not (sign x)) (ltb 0 (mag f x)) w); some = ltb→lt 0 (mag f x) (and_r (not (sign x)) (ltb 0 (mag f x)) w) }
  where
    no : (s : Bool) → T (not s) → s ≡ false
    no true t = absurd t
    no false t = refl

pub tests_of_positive : {f : Format} {x : Float} → Positive f x → T (lt nought x)
tests_of_positive {f} {x} p = subst T
    (sym (above_is (finite_number p.fin) ∙ ap (λ (s : Bool). not s && ltb 0 (mag f x)) p.plus))
    (lt→ltb 0 (mag f x) p.some)
