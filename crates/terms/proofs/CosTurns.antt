-- The turns of the cosine's series: each asks what holds at its term, and moves on to the next.
use Prim.Native.Nat.{ℕ, suc, ◌+◌, ◌*◌, ◌/◌, ◌^◌, ◌≤◌, ◌<◌}
use mathlib.Core.Path.{refl}
use native.Mathlib.Nat.{lt_of_lt_of_le}
use native.Mathlib.Omega.{arith}
use lib.Dec.{lit≤, lit<}
use lib.ListN.{get_or}
use Rattle.terms.specs.declared.CosTerms.{CosTerms}
use Rattle.divisors.specs.Divisors.{divisor}
use Rattle.terms.specs.Terms.{term, sums}
use Rattle.terms.specs.Turns.{CosAt, CosReady, CosTurned}
use Rattle.divisors.proofs.Divisors.{divisors, cosine_divisor}
use Rattle.terms.proofs.Cosines.{zmax, term_small, sum_small}

pub first_on : (z : ℕ) → CosAt z 0 (record { term = 2 ^ 51; plus = 2 ^ 51; minus = 0 })
unfolding term sums
first_on z = record { term_is = refl; plus_is = refl; minus_is = refl }

pub stepped : {z : ℕ} {s r : CosTerms} (k : ℕ) → k < 20 → CosAt z k s → CosTurned z (get_or divisors k 0) s r → CosAt z (suc k) r
unfolding term sums
stepped k l a h = let e = cosine_divisor k l in record {
  term_is = rw (h.term_is, a.term_is, e);
  plus_is = rw (h.plus_is, a.minus_is, a.term_is, e);
  minus_is = rw (h.minus_is, a.plus_is);
}

pub next_fits : (z k : ℕ) → z ≤ zmax → k < 20 → (sums z k).1 + term z k * 64 * z / 2 ^ 64 / divisor k < 2 ^ 64
unfolding term sums
next_fits z k h l = let s : (sums z (suc k)).0 < 2 ^ 62 = sum_small z h (suc k) (omega arith) in lt_of_lt_of_le s (lit≤ tt)

pub ready : {z : ℕ} {s : CosTerms} (k : ℕ) → k < 20 → z ≤ zmax → CosAt z k s → CosReady z (get_or divisors k 0) s
ready {z} k l h a = let e = cosine_divisor k l in record {
  divides = rw e (omega arith);
  term_fits = rw a.term_is (term_small z h k (omega arith));
  sum_fits = rw (a.minus_is, a.term_is, e) (next_fits z k h l);
}

-- ---- the last sums

pub plus-fits : {z : ℕ} {s : CosTerms} → z ≤ zmax → CosAt z 20 s → s.plus < 2 ^ 62
plus-fits {z} h a = rw a.plus_is (sum_small z h 20 (lit< tt))
