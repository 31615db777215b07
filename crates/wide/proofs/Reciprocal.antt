-- A quotient by a product: with M the next number above (2 ^ 64 - 1) / d, x * M / 2 ^ 64 is x / d where x * d is below 2 ^ 64.
use Rattle.std.proofs.Common.{◌≡◌, ℕ, ◌+◌, ◌-◌, ◌*◌, ◌/◌, ◌%◌, ◌^◌, ◌<◌, ◌≤◌, sym, ap, mul-le-mul_right, mod-lt, lt_of_mul-lt-mul_right, mul-le-mul_left, div-add-mod', le_of_mul-le-mul_right, arith}
use native.Mathlib.Nat.{div-le_of_le-mul}

low : (x d M e q r : ℕ) → 0 < d → M * d ≡ 2 ^ 64 + e → x ≡ q * d + r → q * 2 ^ 64 ≤ x * M
low x d M e q r p f g =
    let h : x * (M * d) ≡ x * (2 ^ 64 + e) = ap (λ (z : ℕ). x * z) f in
    le_of_mul-le-mul_right {m = q * 2 ^ 64} {n = x * M} {k = d} (omega arith) p

high : (x d M e q r : ℕ) → M * d ≡ 2 ^ 64 + e → x ≡ q * d + r → r < d → x * e < 2 ^ 64 → x * M < q * 2 ^ 64 + 2 ^ 64
high x d M e q r f g s t =
    let h : x * (M * d) ≡ x * (2 ^ 64 + e) = ap (λ (z : ℕ). x * z) f in
    let u : x * M * d < (q * 2 ^ 64 + 2 ^ 64) * d = omega arith in
    lt_of_mul-lt-mul_right d u

between : (n q : ℕ) → q * 2 ^ 64 ≤ n → n < q * 2 ^ 64 + 2 ^ 64 → n / 2 ^ 64 ≡ q
between n q l h = omega arith

-- M * d is 2 ^ 64 and less than d more
above : (Q R d : ℕ) → Q * d + R ≡ 2 ^ 64 - 1 → R < d → (Q + 1) * d ≡ 2 ^ 64 + (d - R - 1)
above Q R d e h = omega arith

pub over_law : (x d : ℕ) → 2 ≤ d → x * d < 2 ^ 64 → x * ((2 ^ 64 - 1) / d + 1) / 2 ^ 64 ≡ x / d
over_law x d h l =
    let p : 0 < d = omega arith in
    let s : (2 ^ 64 - 1) % d < d = mod-lt (2 ^ 64 - 1) p in
    let f = above ((2 ^ 64 - 1) / d) ((2 ^ 64 - 1) % d) d (div-add-mod' (2 ^ 64 - 1) d) s in
    let g : x ≡ x / d * d + x % d = sym (div-add-mod' x d) in
    let e : d - (2 ^ 64 - 1) % d - 1 ≤ d = omega arith in
    let t : x * (d - (2 ^ 64 - 1) % d - 1) < 2 ^ 64 = omega (arith, mul-le-mul_left x e) in
    between (x * ((2 ^ 64 - 1) / d + 1)) (x / d) (low x d _ _ (x / d) (x % d) p f g) (high x d _ _ (x / d) (x % d) f g (mod-lt x p) t)

pub half : (d : ℕ) → 2 ≤ d → (2 ^ 64 - 1) / d ≤ 2 ^ 63
half d h = div-le_of_le-mul d {m = 2 ^ 64 - 1} {n = 2 ^ 63} (omega (arith, mul-le-mul_right (2 ^ 63) h))
