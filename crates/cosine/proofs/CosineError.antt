-- How far the cosine's sums are from the exact ones, at the fraction n / d for t * t, of which z is 2 ^ 58 times, rounded down, or 3 short at most.
use Prim.Native.Nat.{ℕ, zero, suc, ◌+◌, ◌*◌, ◌/◌, ◌^◌, ◌≤◌, ◌<◌}
use mathlib.Core.Path.{◌≡◌, refl}
use native.Mathlib.Nat.{le_refl, le_trans, mul-le-mul, mul-le-mul_left, mul-le-mul_right, div-mul-le_self, lt-div-mul-add, pow-zero, pow-suc}
use native.Mathlib.Omega.{arith}
use lib.Dec.{lit<}
use Rattle.divisors.specs.Divisors.{divisor}
use Rattle.terms.specs.Terms.{term, sums}
use Rattle.cosine.specs.Bounds.{under, exact}
use Rattle.terms.proofs.Cosines.{divisor-pos, term_small, zmax}

-- a quotient of a quotient, from below and from above
twice-below : (a b g : ℕ) → a / b / g * g * b ≤ a
twice-below a b g = le_trans (mul-le-mul_right b (div-mul-le_self (a / b) g)) (div-mul-le_self a b)

twice-above : (a b g : ℕ) → 0 < b → 0 < g → a < (a / b / g * g + g) * b
twice-above a b g hb hg =
    let one : a < a / b * b + b = lt-div-mul-add hb in
    let two : a / b < a / b / g * g + g = lt-div-mul-add hg in
    omega (arith, mul-le-mul_right b two)

-- a step of the term, over any numbers: U stands for the denominator, N for the numerator
step_below : (t z q g U N n d : ℕ) → q * g * 2 ^ 64 ≤ t * 64 * z → z * d ≤ 2 ^ 58 * n → t * U ≤ 2 ^ 51 * N
    → q * (U * (d * g)) ≤ 2 ^ 51 * (N * n)
step_below t z q g U N n d hq hz ht =
    omega (arith, mul-le-mul_right (U * d) hq, mul-le-mul ht hz)

step_above : (t z q g U N n d e e' : ℕ) → t * 64 * z < (q * g + g) * 2 ^ 64 → 2 ^ 58 * n ≤ (z + 3) * d → z + 3 ≤ 40 * 2 ^ 58
    → t < 2 ^ 58 → 40 * e + 3 + g ≤ e' * g → 2 ^ 51 * N ≤ (t + e) * U → 2 ^ 51 * (N * n) ≤ (q + e') * (U * (d * g))
step_above t z q g U N n d e e' hq hz zle small he ht =
    let core : (t + e) * (z + 3) ≤ (q * g + e' * g) * 2 ^ 58 = omega (arith, mul-le-mul_left e zle) in
    omega (arith, mul-le-mul ht hz, mul-le-mul_right (U * d) core)

-- how many units a term is short at most, and a sum
unfoldable pub err : ℕ → ℕ
err zero = 0
err (suc k) = 1 + (40 * err k + 3 + divisor k) / divisor k

unfoldable pub errs : ℕ → ℕ × ℕ
unfolding err
errs zero = (0, 0)
errs (suc k) = ((errs k).1 + err (suc k), (errs k).0)

err_step : (k : ℕ) → 40 * err k + 3 + divisor k ≤ err (suc k) * divisor k
unfolding err
err_step k = go (40 * err k + 3 + divisor k) (divisor k) (divisor-pos k)
  where
    go : (x g : ℕ) → 0 < g → x ≤ (1 + x / g) * g
    go x g p = omega (arith, lt-div-mul-add {a = x} {b = g} p)

pub record Near (s x e U : ℕ) : Type 0 where
  pub low : s * U ≤ 2 ^ 51 * x
  pub high : 2 ^ 51 * x ≤ (s + e) * U

-- over a denominator that is w times as large; and with one more term
pub wider : (s x e U w : ℕ) → Near s x e U → Near s (x * w) e (U * w)
wider s x e U w h = record { low = omega (arith, mul-le-mul_right w h.low); high = omega (arith, mul-le-mul_right w h.high) }

more : (s x e t y f U : ℕ) → Near s x e U → Near t y f U → Near (s + t) (x + y) (e + f) U
more s x e t y f U h g = record { low = omega (arith, h.low, g.low); high = omega (arith, h.high, g.high) }

module _ (n d z : ℕ) (lo : z * d ≤ 2 ^ 58 * n) (hi : 2 ^ 58 * n ≤ (z + 3) * d) (zle : z + 3 ≤ zmax) where
  pub term_near : (k : ℕ) → k < 22 → Near (term z k) (n ^ k) (err k) (under d k)
  unfolding term under err
  term_near zero l = record { low = rw (pow-zero n) (le_refl (2 ^ 51)); high = rw (pow-zero n) (le_refl (2 ^ 51)) }
  term_near (suc k) l =
      let back = term_near k (omega arith) in
      let a = term z k * 64 * z in
      record {
        low = rw (pow-suc n k) (step_below (term z k) z (a / 2 ^ 64 / divisor k) (divisor k) (under d k) (n ^ k) n d
            (twice-below a (2 ^ 64) (divisor k)) lo back.low);
        high = rw (pow-suc n k) (step_above (term z k) z (a / 2 ^ 64 / divisor k) (divisor k) (under d k) (n ^ k) n d (err k) (err (suc k))
            (twice-above a (2 ^ 64) (divisor k) (lit< tt) (divisor-pos k)) hi zle (term_small z (omega arith) k (omega arith)) (err_step k) back.high);
      }

  pub sums_near : (k : ℕ) → k < 22
      → Near (sums z k).0 (exact n d k).0 (errs k).0 (under d k) × Near (sums z k).1 (exact n d k).1 (errs k).1 (under d k)
  unfolding sums exact errs term under
  sums_near zero l =
      (record { low = le_refl (2 ^ 51); high = le_refl (2 ^ 51) }, record { low = le_refl 0; high = le_refl 0 })
  sums_near (suc k) l =
      let back = sums_near k (omega arith) in (
        more (sums z k).1 ((exact n d k).1 * (d * divisor k)) (errs k).1 (term z (suc k)) (n ^ suc k) (err (suc k)) (under d (suc k))
            (wider (sums z k).1 (exact n d k).1 (errs k).1 (under d k) (d * divisor k) back.1) (term_near (suc k) l),
        wider (sums z k).0 (exact n d k).0 (errs k).0 (under d k) (d * divisor k) back.0,
      )

-- the sums of 21 terms are at most 44 units short, and those of 22 too
pub errs-plus : (errs 20).0 ≡ 44
unfolding errs
errs-plus = refl

pub errs-minus : (errs 20).1 ≡ 43
unfolding errs
errs-minus = refl
