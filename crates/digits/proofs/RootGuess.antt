-- A guess g at the root of m * 2 ^ 54, tested by the exact rest: two words of m * 2 ^ 54 less two words of g * g.
use Rattle.std.proofs.Common.{◌≡◌, ℕ, ◌+◌, ◌-◌, ◌*◌, ◌/◌, ◌%◌, ◌^◌, ◌<◌, ◌≤◌, sym, ap, ◌∙◌, lt_of_le_of_lt, mul-le-mul, div-add-mod', arith, lit<}
use native.Mathlib.Nat.{div-le_of_le-mul}

-- the two words of m * 2 ^ 54
words : (m : ℕ) → m / 2 ^ 10 * 2 ^ 64 + m * 2 ^ 54 % 2 ^ 64 ≡ m * 2 ^ 54
words m = omega arith

-- what `excess` says, where the product's words are those of g * g
pub rest_is : (m g p₁ p₀ r : ℕ) → p₁ ≡ g * g / 2 ^ 64 → p₀ ≡ g * g % 2 ^ 64 → m / 2 ^ 10 * 2 ^ 64 + m * 2 ^ 54 % 2 ^ 64 ≡ p₁ * 2 ^ 64 + p₀ + r
    → m * 2 ^ 54 ≡ g * g + r
rest_is m g p₁ p₀ r e f h = sym (words m) ∙ h ∙ ap (λ (z : ℕ). z + r) ((λ i. e i * 2 ^ 64 + f i) ∙ div-add-mod' (g * g) (2 ^ 64))

pub here : (N g r : ℕ) → N ≡ g * g + r → r ≤ 2 * g → (g * g ≤ N) × (N < (g + 1) * (g + 1))
here N g r e h = (omega arith, omega arith)

pub next : (N g r : ℕ) → N ≡ g * g + r → 2 * g < r → r ≤ 4 * g + 3 → ((g + 1) * (g + 1) ≤ N) × (N < (g + 1 + 1) * (g + 1 + 1))
next N g r e l h = (omega arith, omega arith)

pub upper_small : (g p : ℕ) → g < 2 ^ 55 → p ≡ g * g / 2 ^ 64 → p < 2 ^ 64 - 1
upper_small g p h e =
    let l : g ≤ 2 ^ 55 = omega arith in
    let q : g * g / 2 ^ 64 ≤ 2 ^ 46 = div-le_of_le-mul (2 ^ 64) {m = g * g} {n = 2 ^ 46} (mul-le-mul l l) in
    rw e (lt_of_le_of_lt q (lit< tt))
