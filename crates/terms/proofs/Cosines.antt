-- The cosine's terms and sums stay small, so that nothing wraps: they grow with the square z, and at the largest z they are computed.
use Prim.Native.Nat.{ℕ, zero, suc, ◌*◌, ◌^◌, ◌≤◌, ◌<◌}
use mathlib.Core.Bool.{Bool}
use native.Mathlib.Nat.{le_refl, mul-le-mul, mul-le-mul_right, add-le-add, lt_of_le_of_lt}
use native.Mathlib.Omega.{arith}
use lib.Dec.{ltb, lit<, ltb→lt}
use Rattle.divisors.specs.Divisors.{divisor}
use Rattle.terms.specs.Terms.{term, sums}
use Rattle.divisors.proofs.Upto.{below, div_grows}

pub divisor-pos : (k : ℕ) → 0 < divisor k
divisor-pos k = omega arith

pub term_grows : {z y : ℕ} → z ≤ y → (k : ℕ) → term z k ≤ term y k
unfolding term
term_grows h zero = le_refl (2 ^ 51)
term_grows h (suc k) =
    div_grows (divisor k) (divisor-pos k)
    (div_grows (2 ^ 64) (lit< tt) (mul-le-mul (mul-le-mul_right 64 (term_grows h k)) h))

pub sums_grow : {z y : ℕ} → z ≤ y → (k : ℕ) → ((sums z k).0 ≤ (sums y k).0) × ((sums z k).1 ≤ (sums y k).1)
unfolding sums
sums_grow h zero = (le_refl (2 ^ 51), le_refl 0)
sums_grow h (suc k) = (add-le-add (sums_grow h k).1 (term_grows h (suc k)), (sums_grow h k).0)

-- the largest t * t, as the rule has it: 40
abbrev pub zmax : ℕ
zmax = 5 * 2 ^ 61

small_term : ℕ → Bool
small_term k = ltb (term zmax k) (2 ^ 58)

small_sum : ℕ → Bool
small_sum k = ltb (sums zmax k).0 (2 ^ 62)

pub term_small : (z : ℕ) → z ≤ zmax → (k : ℕ) → k < 22 → term z k < 2 ^ 58
unfolding small_term term
term_small z h k l = lt_of_le_of_lt (term_grows h k) (ltb→lt (term zmax k) (2 ^ 58) (below small_term 22 tt k l))

pub sum_small : (z : ℕ) → z ≤ zmax → (k : ℕ) → k < 22 → (sums z k).0 < 2 ^ 62
unfolding small_sum term sums
sum_small z h k l = lt_of_le_of_lt (sums_grow h k).0 (ltb→lt (sums zmax k).0 (2 ^ 62) (below small_sum 22 tt k l))
