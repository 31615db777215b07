-- The difference of two numbers of two words.
use Rattle.std.proofs.Common.{◌≡◌, ℕ, ◌+◌, ◌*◌, ◌%◌, ◌^◌, ◌<◌, ◌≤◌, Bool, true, false, arith}
use Rattle.std.specs.Bool.{FalseIff}
use mir.Val.{bool_byte}

wrapped : (n p r : ℕ) → n < p → p < 2 ^ 64 → r < 2 ^ 64 → (r + p) % 2 ^ 64 ≡ n → r + p ≡ n + 2 ^ 64
wrapped n p r h a b e = omega arith

plain : (n p r : ℕ) → p ≤ n → n < 2 ^ 64 → r < 2 ^ 64 → (r + p) % 2 ^ 64 ≡ n → r + p ≡ n
plain n p r h a b e = omega arith

-- where the upper words differ by the borrow, the difference is one word
pub excess_law : (n₁ n₀ p₁ p₀ r : ℕ) → n₀ < 2 ^ 64 → p₀ < 2 ^ 64 → r < 2 ^ 64 → (r + p₀) % 2 ^ 64 ≡ n₀
    → (t : Bool) → FalseIff t (p₀ ≤ n₀) → p₁ + bool_byte t ≡ n₁ → n₁ * 2 ^ 64 + n₀ ≡ p₁ * 2 ^ 64 + p₀ + r
excess_law n₁ n₀ p₁ p₀ r a b c e true above f =
    let d : r + p₀ ≡ n₀ + 2 ^ 64 = wrapped n₀ p₀ r (omega arith) b c e in
    let g : p₁ + 1 ≡ n₁ = f in
    omega arith
excess_law n₁ n₀ p₁ p₀ r a b c e false below f =
    let d : r + p₀ ≡ n₀ = plain n₀ p₀ r below a c e in
    let g : p₁ + 0 ≡ n₁ = f in
    omega arith
