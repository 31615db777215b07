-- `logarithm::long_division` meets its contract: after k steps of long division the quotient and the rest are those of f * 1024 ^ k.
use Prim.Native.Nat.{ℕ, ◌+◌, ◌*◌, ◌/◌, ◌%◌, ◌^◌, ◌≤◌, ◌<◌}
use mathlib.Core.Path.{◌≡◌, sym, ap, ◌∙◌}
use native.Mathlib.Nat.{pow-suc, mul-one, mod-lt, mod-eq_of_lt, div-eq_of_lt, div-add-mod', mul-add-div_right, mul-add-mod_self_right}
use native.Mathlib.Nat.{div-le_of_le-mul, mul-le-mul, pow-le-pow_right}
use native.Mathlib.Numerals.{add-one}
use native.Mathlib.Omega.{arith}
use lib.Dec.{lit<}
use Rattle.logarithm.specs.Logarithm.{ratio}
use Rattle.logarithm.proofs.long_division.Goals as goal

-- a step of long division
turned : (n d : ℕ) → n * 1024 ≡ n / d * 1024 * d + n % d * 1024
turned n d = omega (arith, ap (λ (x : ℕ). x * 1024) (div-add-mod' n d))

next_quotient : (n d : ℕ) → 0 < d → n / d * 1024 + n % d * 1024 / d ≡ n * 1024 / d
next_quotient n d h = sym (ap (λ (x : ℕ). x / d) (turned n d) ∙ mul-add-div_right h (n / d * 1024) (n % d * 1024))

next_rest : (n d : ℕ) → n % d * 1024 % d ≡ n * 1024 % d
next_rest n d = sym (ap (λ (x : ℕ). x % d) (turned n d) ∙ mul-add-mod_self_right (n / d * 1024) d (n % d * 1024))

quotient_small : (f k : ℕ) → k ≤ 5 → f * 1024 ^ k / (f + 2 ^ 53) ≤ 2 ^ 50
quotient_small f k h =
    div-le_of_le-mul (f + 2 ^ 53) {m = f * 1024 ^ k} {n = 2 ^ 50}
    (omega (arith, mul-le-mul {n₁ = f} {m₁ = 1024 ^ k} {n₂ = f} {m₂ = 2 ^ 50} (omega arith) (pow-le-pow_right {n = 1024} (lit< tt) h)))

power_step : (f k : ℕ) → f * 1024 ^ k * 1024 ≡ f * 1024 ^ (k + 1)
power_step f k = rw (add-one k, pow-suc 1024 k) (omega arith)

divided : (f k q rest : ℕ) → q ≡ f * 1024 ^ k / (f + 2 ^ 53) → rest ≡ f * 1024 ^ k % (f + 2 ^ 53)
    → q * 1024 + rest * 1024 / (f + 2 ^ 53) ≡ f * 1024 ^ (k + 1) / (f + 2 ^ 53)
divided f k q rest g h =
    rw (g, h) (next_quotient (f * 1024 ^ k) (f + 2 ^ 53) (omega arith) ∙ ap (λ (x : ℕ). x / (f + 2 ^ 53)) (power_step f k))

pub loop-k-init : goal.loop-k-init
loop-k-init c =
    let l : c.args.f < c.args.f + 2 ^ 53 = omega arith in
    (rw (mul-one c.args.f) (sym (div-eq_of_lt l)), rw (mul-one c.args.f) (sym (mod-eq_of_lt l)))

pub overflow_mul-x : goal.overflow_mul-x
overflow_mul-x c = omega (arith, mod-lt (c.args.f * 1024 ^ c.loop-k._k) {m = c.args.f + 2 ^ 53} (omega arith))

pub overflow_mul-q : goal.overflow_mul-q
overflow_mul-q c = omega (arith, quotient_small c.args.f c.loop-k._k (omega arith))

pub overflow_add-q : goal.overflow_add-q
overflow_add-q c = omega (arith, divided _ _ _ _ c.loop-k.invariant.0 c.loop-k.invariant.1, quotient_small c.args.f (c.loop-k._k + 1) (omega arith))

pub loop-k-preserved : goal.loop-k-preserved
loop-k-preserved c =
    let f = c.args.f in (
      divided _ _ _ _ c.loop-k.invariant.0 c.loop-k.invariant.1,
      rw c.loop-k.invariant.1 (next_rest (f * 1024 ^ c.loop-k._k) (f + 2 ^ 53) ∙ ap (λ (x : ℕ). x % (f + 2 ^ 53))
          (power_step f c.loop-k._k)),
    )

pub returns : goal.returns
unfolding ratio
returns c =
    let done : c.loop-k._k ≡ 5 = omega arith in
    c.loop-k.invariant.0 ∙ ap (λ (k : ℕ). c.args.f * 1024 ^ k / (c.args.f + 2 ^ 53)) done
