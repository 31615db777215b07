-- Told between functions: where the series stands, and what one turn asks and does.
use Rattle.std.specs.Prelude.{ℕ, ◌+◌, ◌*◌, ◌/◌, ◌^◌, ◌≤◌, ◌<◌, ◌≡◌}
use Rattle.terms.specs.declared.CosTerms.{CosTerms}
use Rattle.terms.specs.declared.NearTerms.{NearTerms}
use Rattle.terms.specs.Terms.{term, sums}

-- s has the cosine's term k at the square z, and the two sums up to it
pub record CosAt (z k : ℕ) (s : CosTerms) : Type 0 where
  pub term_is : s.term ≡ term z k
  pub plus_is : s.plus ≡ (sums z k).0
  pub minus_is : s.minus ≡ (sums z k).1

-- the term after that of s, by the divisor d
abbrev pub next_term : ℕ → ℕ → CosTerms → ℕ
next_term z d s = s.term * 64 * z / 2 ^ 64 / d

-- what a turn of the cosine asks: nothing in it wraps
pub record CosReady (z d : ℕ) (s : CosTerms) : Type 0 where
  pub divides : 2 ≤ d
  pub term_fits : s.term < 2 ^ 58
  pub sum_fits : s.minus + next_term z d s < 2 ^ 64

-- what it does: the next term is added to the sum of its sign, and the two sums change places
pub record CosTurned (z d : ℕ) (s r : CosTerms) : Type 0 where
  pub term_is : r.term ≡ next_term z d s
  pub plus_is : r.plus ≡ s.minus + next_term z d s
  pub minus_is : r.minus ≡ s.plus

-- n has no more than the cosine's term k at the square z and the two sums up to it, and exactly these while there is no doubt
pub record NearAt (z k : ℕ) (n : NearTerms) : Type 0 where
  pub term-le : n.terms.term ≤ term z k
  pub plus-le : n.terms.plus ≤ (sums z k).0
  pub minus-le : n.terms.minus ≤ (sums z k).1
  pub sure : n.doubt < 2 ^ 63 → CosAt z k n.terms

-- what a turn of the shorter way does: as the plain turn, with a term that is never too large, and right where it leaves no doubt
pub record NearTurned (z d : ℕ) (n r : NearTerms) : Type 0 where
  pub term-le : r.terms.term ≤ next_term z d n.terms
  pub plus_is : r.terms.plus ≡ n.terms.minus + r.terms.term
  pub minus_is : r.terms.minus ≡ n.terms.plus
  pub sure : r.doubt < 2 ^ 63 → (n.doubt < 2 ^ 63) × (r.terms.term ≡ next_term z d n.terms)
