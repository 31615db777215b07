-- A guess g at f * 2 ^ 50 / d is right where the exact rest, two words of f * 2 ^ 50 less two words of g * d, is below d.
use Prim.Native.Nat.{ℕ, ◌+◌, ◌-◌, ◌*◌, ◌/◌, ◌%◌, ◌^◌, ◌≤◌, ◌<◌}
use native.Mathlib.Nat.{mul-le-mul, div-add-mod', div-le_of_le-mul, lt_of_le_of_lt}
use native.Mathlib.Omega.{arith}
use mathlib.Core.Path.{◌≡◌, sym, ap, ◌∙◌}
use lib.Arith.{digits_div}
use lib.Dec.{lit<}
use Rattle.logarithm.specs.Logarithm.{ratio}

-- the two words of f * 2 ^ 50
words : (f : ℕ) → f / 2 ^ 14 * 2 ^ 64 + f * 2 ^ 50 % 2 ^ 64 ≡ f * 2 ^ 50
words f = omega arith

pub rest_is : (f g d p₁ p₀ r : ℕ) → p₁ ≡ g * d / 2 ^ 64 → p₀ ≡ g * d % 2 ^ 64 → f / 2 ^ 14 * 2 ^ 64 + f * 2 ^ 50 % 2 ^ 64 ≡ p₁ * 2 ^ 64 + p₀ + r
    → f * 2 ^ 50 ≡ g * d + r
rest_is f g d p₁ p₀ r e h k = sym (words f) ∙ k ∙ ap (λ (z : ℕ). z + r) ((λ i. e i * 2 ^ 64 + h i) ∙ div-add-mod' (g * d) (2 ^ 64))

pub here : (f g r : ℕ) → f * 2 ^ 50 ≡ g * (f + 2 ^ 53) + r → r < f + 2 ^ 53 → g ≡ ratio f
unfolding ratio
here f g r e h = sym (ap (λ (z : ℕ). z / (f + 2 ^ 53)) e ∙ digits_div g h)

pub upper_small : (g d p : ℕ) → g < 2 ^ 52 → d < 2 ^ 54 → p ≡ g * d / 2 ^ 64 → p < 2 ^ 64 - 1
upper_small g d p h k e =
    let l : g ≤ 2 ^ 52 = omega arith in
    let m : d ≤ 2 ^ 54 = omega arith in
    let q : g * d / 2 ^ 64 ≤ 2 ^ 42 = div-le_of_le-mul (2 ^ 64) {m = g * d} {n = 2 ^ 42} (mul-le-mul l m) in
    rw e (lt_of_le_of_lt q (lit< tt))
