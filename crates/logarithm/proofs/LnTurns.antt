-- The turns of the logarithm's series: each asks what holds at its power, and moves on to the next.
use Prim.Native.Nat.{ℕ, suc, ◌+◌, ◌*◌, ◌/◌, ◌^◌, ◌≤◌, ◌<◌}
use mathlib.Core.Path.{◌≡◌, sym, ap, ◌∙◌}
use native.Mathlib.Nat.{mul-le-mul, le_of_lt, div-le_self}
use native.Mathlib.Omega.{arith}
use lib.ListN.{get_or}
use Rattle.logarithm.specs.declared.LnTerms.{LnTerms}
use Rattle.logarithm.specs.Logarithm.{power, odd_sum, ratio_square}
use Rattle.logarithm.specs.Turns.{LnAt, LnReady, LnTurned}
use Rattle.divisors.proofs.Divisors.{divisors, odd-divisor}
use Rattle.logarithm.proofs.Logs.{power_small, sum_small, skipped}

pub first-power : (q w r : ℕ) → w ≡ ratio_square q → r ≡ q * 512 * w / 2 ^ 64 → LnAt q 1 (record { power = r; sum = q * 512 / 1 })
unfolding odd_sum power
first-power q w r e f = record { power_is = f ∙ ap (λ (z : ℕ). q * 512 * z / 2 ^ 64) e; sum_is = omega arith }

pub turned : {q w : ℕ} {s r : LnTerms} (k : ℕ) → k < 17 → w ≡ ratio_square q → LnAt q k s → LnTurned w (get_or divisors (20 + k) 0) s r → LnAt q (suc k) r
unfolding odd_sum power
turned k l e a h = let f = odd-divisor k l in record { power_is = rw (h.power_is, a.power_is, e); sum_is = rw (h.sum_is, a.power_is, a.sum_is, f) }

pub ready : {q : ℕ} {s : LnTerms} (k : ℕ) → 1 ≤ k → k < 17 → q < 2 ^ 49 → LnAt q k s → LnReady (get_or divisors (20 + k) 0) s
ready {q} {s} k l m h a =
    let f = odd-divisor k m in
    let small : s.power < 2 ^ 58 = rw a.power_is (power_small q h k) in
    let le : s.power ≤ 2 ^ 58 = le_of_lt small in
    let few : 2 * k + 1 ≤ 41 = omega arith in
    let sum : s.sum ≤ k * 2 ^ 58 = rw a.sum_is (sum_small q h k) in
    record { divides = rw f (omega arith); product-fits = rw f (omega (arith, mul-le-mul le few)); power-fits = small; sum_fits = omega arith }

pub sum_fits : (s p d r : ℕ) → s < 2 ^ 63 → p < 2 ^ 58 → r ≡ p / d → s + r < 2 ^ 64
sum_fits s p d r h l e = let q : p / d ≤ p = div-le_self p d in omega arith

-- the last power that adds anything, and the whole sum
pub summed : {q : ℕ} {s : LnTerms} (r : ℕ) → 3 * q ≤ 2 ^ 50 → LnAt q 16 s → r ≡ s.power / get_or divisors 36 0 → s.sum + r ≡ odd_sum q 21
unfolding odd_sum
summed {q} {s} r h a e = rw (e, a.sum_is, a.power_is) (sym (skipped q h))
