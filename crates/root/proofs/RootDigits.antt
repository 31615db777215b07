-- A number t * 2 ^ k as M * 4 ^ h / 2 ^ 52, with 53 or 54 digits in M.
use Prim.Native.Nat.{ℕ, suc, ◌+◌, ◌-◌, ◌*◌, ◌/◌, ◌%◌, ◌^◌, ◌≤◌, ◌<◌}
use native.Mathlib.Nat.{pow-succ', mul-le-mul_right, lt_of_not-le, mul_assoc}
use native.Mathlib.Omega.{arith}
use mathlib.Core.Path.{◌≡◌, sym, ap, ◌∙◌}
use lib.Pow.{pow-add, shl_lt}
use lib.Ieee.{size}
use lib.Ieee.Digits.{size-lt, size-le, size_reaches}
use Rattle.root.specs.Inner.{Normal}

-- what `pack` asks of the digits M and of the power h, half of j
pub record Ready (t k j M : ℕ) : Type 0 where
  pub full : 2 ^ 52 ≤ M
  pub short : M ≤ 2 ^ 54 - 2
  pub near : j ≤ k + 52
  pub same : t * 2 ^ k * 2 ^ 52 ≡ M * (2 ^ (j / 2) * 2 ^ (j / 2))

units_same : (t k m j P : ℕ) → m * 2 ^ j ≡ t * 2 ^ (k + 52) → 2 ^ j ≡ P → t * 2 ^ k * 2 ^ 52 ≡ m * P
units_same t k m j P e f =
    let g : t * 2 ^ (k + 52) ≡ t * (2 ^ k * 2 ^ 52) = ap (λ (z : ℕ). t * z) (pow-add 2 k 52) in
    let i : m * 2 ^ j ≡ m * P = ap (λ (z : ℕ). m * z) f in
    omega arith

pub even_j : (t k m j : ℕ) → Normal t k m j → (j % 2 ≡ 1 → ⊥) → Ready t k j m
even_j t k m j a h =
    let e : j ≡ j / 2 + j / 2 = omega arith in
    let f : 2 ^ j ≡ 2 ^ (j / 2) * 2 ^ (j / 2) = ap (λ (z : ℕ). 2 ^ z) e ∙ pow-add 2 (j / 2) (j / 2) in
    record { full = a.full; short = omega arith; near = a.near; same = units_same t k m j _ a.same f }

pub odd_j : (t k m j : ℕ) → Normal t k m j → j % 2 ≡ 1 → Ready t k j (2 * m)
odd_j t k m j a h =
    let e : j ≡ suc (j / 2 + j / 2) = omega arith in
    let f : 2 ^ j ≡ 2 * (2 ^ (j / 2) * 2 ^ (j / 2)) = ap (λ (z : ℕ). 2 ^ z) e ∙ pow-succ' 2 (j / 2 + j / 2) ∙ ap
    (λ (z : ℕ). 2 * z) (pow-add 2 (j / 2) (j / 2)) in
    let g = units_same t k m j _ a.same f in
    record { full = omega (arith, a.full); short = omega (arith, a.short); near = a.near; same = omega arith }

-- every t * 2 ^ k has such an m and j, by the number of digits of t
pub normal_of : (t k : ℕ) → 0 < t → t < 2 ^ 53 → Normal t k (t * 2 ^ (53 - size t)) (k + 52 - (53 - size t))
normal_of t k p h =
    let z = size t in
    let hi : t < 2 ^ z = size-lt t in
    let most : z ≤ 53 = size-le t 53 h in
    let some : 0 < z = lt_of_not-le (λ (g : z ≤ 0). few z g hi) in
    let lo : 2 ^ (z - 1) ≤ t = size_reaches t (z - 1) (omega arith) in
    let s = 53 - z in
    let a : z + s ≡ 53 = omega arith in
    let b : z - 1 + s ≡ 52 = omega arith in
    let c : t * 2 ^ s < 2 ^ (z + s) = shl_lt z s hi in
    let d : 2 ^ (z - 1 + s) ≤ t * 2 ^ s = rw (pow-add 2 (z - 1) s) (mul-le-mul_right (2 ^ s) lo) in
    let e : s + (k + 52 - s) ≡ k + 52 = omega arith in
    record {
      full = rw b at d;
      short = rw a at c;
      near = omega arith;
      same = mul_assoc t (2 ^ s) (2 ^ (k + 52 - s)) ∙ ap (λ (x : ℕ). t * x) (sym (pow-add 2 s (k + 52 - s)) ∙ ap (λ (x : ℕ). 2 ^ x) e);
    }
  where
    few : (z : ℕ) → z ≤ 0 → t < 2 ^ z → ⊥
    few z g l = let e : z ≡ 0 = omega arith in let l' : t < 2 ^ 0 = rw e at l in omega arith
