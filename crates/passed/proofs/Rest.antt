-- The ranking is the support in another order: as long, each index of it once, each of a weight that is not 0. The rest is what follows the kept ones.
use Prim.Native.Nat.{ℕ, ◌+◌, ◌-◌, ◌≤◌, ◌<◌}
use mathlib.Core.Path.{◌≡◌, sym, ◌∙◌}
use mathlib.Core.Bool.{true}
use mathlib.Core.List.{List}
use native.Mathlib.Omega.{arith}
use lib.ListN.{length, get_or, length-drop}
use lib.Seq.{get_or-drop}
use lib.Ieee.{Float}
use Rattle.seq.proofs.Keeping.{keep-good, length-keep}
use Rattle.seq.proofs.Sorting.{length-sorted}
use Rattle.weights.specs.Weights.{is_on, nonzeros}
use Rattle.ranking.specs.Ranking.{support, heavier, ranked, kept_count, rest_of}
use Rattle.doubling.proofs.Once.{Every, Distinct, every_at, every_sorted, every_drop, distinct_at, distinct_sorted, distinct_keep, distinct_drop}

-- an index of a weight that is not 0
pub record On (w : List Float) (j : ℕ) : Type 0 where
  pub on : is_on w j ≡ true
  pub below : j < length w

module _ (w : List Float) where
  pub length-ranked : length (ranked w) ≡ nonzeros w
  unfolding ranked
  length-ranked = length-sorted (heavier w) (λ p. get_or (support w) p 0) (length (support w)) ∙ length-keep (is_on w) (length w)

  ranked_every : Every (On w) (ranked w)
  unfolding ranked
  ranked_every =
      every_sorted (heavier w) (λ p. get_or (support w) p 0) (length (support w))
      (λ m l. record { on = (keep-good (is_on w) (length w) m l).0; below = (keep-good (is_on w) (length w) m l).1 })

  -- each index of the ranking is of a weight that is not 0
  pub ranked_on : (p : ℕ) → p < length (ranked w) → On w (get_or (ranked w) p 0)
  ranked_on = every_at ranked_every

  pub support-once : (m n : ℕ) → m < n → n < length (support w) → get_or (support w) n 0 ≡ get_or (support w) m 0 → ⊥
  support-once m n l g e = let same : n ≡ m = distinct_at (distinct_keep (is_on w) (length w)) n m g (omega arith) e in omega arith

  ranked_distinct : Distinct (ranked w)
  unfolding ranked
  ranked_distinct = distinct_sorted (heavier w) (λ p. get_or (support w) p 0) (length (support w)) support-once

  -- each index stands once in it
  pub ranked-once : (p q : ℕ) → p < length (ranked w) → q < length (ranked w) → get_or (ranked w) p 0 ≡ get_or (ranked w) q 0 → p ≡ q
  ranked-once = distinct_at ranked_distinct

  -- ---- the rest

  pub length_rest : length (rest_of w) ≡ nonzeros w - kept_count (nonzeros w)
  unfolding rest_of
  length_rest = length-drop (kept_count (length (ranked w))) (ranked w) ∙ rw length-ranked

  pub rest_some : 2 ≤ nonzeros w → 0 < length (rest_of w)
  rest_some h = rw length_rest (omega arith)

  pub rest_every : Every (On w) (rest_of w)
  unfolding rest_of
  rest_every = every_drop (kept_count (length (ranked w))) ranked_every

  pub rest_on : (p : ℕ) → p < length (rest_of w) → On w (get_or (rest_of w) p 0)
  rest_on = every_at rest_every

  pub rest_distinct : Distinct (rest_of w)
  unfolding rest_of
  rest_distinct = distinct_drop (kept_count (length (ranked w))) ranked_distinct

  -- the heaviest of all is kept: it is none of the rest
  pub first-kept : (p : ℕ) → p < length (rest_of w) → get_or (rest_of w) p 0 ≡ get_or (ranked w) 0 0 → ⊥
  unfolding rest_of
  first-kept p h e =
      let k : ℕ = kept_count (length (ranked w)) in
      let l : p < length (ranked w) - k = rw (length-drop k (ranked w)) at h in
      let same : k + p ≡ 0 = ranked-once (k + p) 0 (omega arith) (omega arith) (sym (get_or-drop k (ranked w) p 0) ∙ e) in
      omega arith
