-- `cosine::fixed` meets its contract: either shift is the division by 2 ^ 1014.
use Prim.Native.Nat.{ℕ, ◌+◌, ◌-◌, ◌*◌, ◌/◌, ◌%◌, ◌^◌, ◌≤◌, ◌<◌}
use mathlib.Core.Path.{◌≡◌, sym, ap, ◌∙◌}
use native.Mathlib.Nat.{mul-div-mul_right, mul-div_cancel, mul_assoc, mod-lt}
use native.Mathlib.Omega.{arith}
use lib.Dec.{lit<}
use lib.Pow.{pow_pos, pow-add, shl_exact}
use lib.Bits.{and_mask, mask_lt}
use Rattle.cosine.proofs.fixed.Goals as goal

-- a shift down, and a shift up, of m * 2 ^ e by a fixed number of places
down : (m e k : ℕ) → e ≤ k → m / 2 ^ (k - e) ≡ m * 2 ^ e / 2 ^ k
down m e k h =
    let s : k ≡ (k - e) + e = omega arith in
    sym (ap (λ (x : ℕ). m * 2 ^ e / 2 ^ x) s ∙ ap (λ (x : ℕ). m * 2 ^ e / x) (pow-add 2 (k - e) e) ∙ mul-div-mul_right m (2 ^ (k - e)) (pow_pos e))

up : (m e k : ℕ) → k ≤ e → m * 2 ^ (e - k) ≡ m * 2 ^ e / 2 ^ k
up m e k h =
    let s : e ≡ (e - k) + k = omega arith in
    sym
    (ap (λ (x : ℕ). m * 2 ^ x / 2 ^ k) s
    ∙ ap (λ (x : ℕ). m * x / 2 ^ k) (pow-add 2 (e - k) k)
    ∙ ap (λ (x : ℕ). x / 2 ^ k) (sym (mul_assoc m (2 ^ (e - k)) (2 ^ k)))
    ∙ mul-div_cancel (m * 2 ^ (e - k)) (pow_pos k))

pub overflow_add-m : goal.overflow_add-m
overflow_add-m c = omega (arith, mask_lt c.args.b 52)

pub returns-then-e-lt1014 : goal.returns-then-e-lt1014
returns-then-e-lt1014 c =
    let b = c.args.b in
    rw (and_mask b 52) (down (b % 2 ^ 52 + 2 ^ 52) (b / 2 ^ 52) 1014 (omega arith))

pub returns-else-e-lt1014 : goal.returns-else-e-lt1014
returns-else-e-lt1014 c =
    let b = c.args.b in
    let m : b % 2 ^ 52 + 2 ^ 52 < 2 ^ 53 = omega (arith, mod-lt b {m = 2 ^ 52} (lit< tt)) in
    rw (and_mask b 52)
    (shl_exact {a = b % 2 ^ 52 + 2 ^ 52} 53 (b / 2 ^ 52 - 1014) 64 m (omega arith) ∙ up (b % 2 ^ 52 + 2 ^ 52) (b / 2 ^ 52) 1014 (omega arith))
