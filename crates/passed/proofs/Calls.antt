-- What the functions of a pass hand to each other, from what each ensures: the rest of the ranking, and the pass from its two halvings and the division.
use Prim.Native.Nat.{ℕ, ◌-◌, ◌≤◌, ◌<◌}
use mathlib.Core.Path.{◌≡◌, ap, ◌∙◌}
use mathlib.Core.List.{List}
use native.Mathlib.Omega.{arith}
use lib.ListN.{length, get_or, take, drop, length-drop}
use lib.Seq.{take_all}
use lib.Ieee.{Float}
use Rattle.seq.specs.Sums.{plus_zero, at}
use Rattle.seq.specs.Indices.{Below}
use Rattle.seq.proofs.Keeping.{keep-good, count_short}
use Rattle.ieee.specs.Magnitude.{abs_of}
use Rattle.weights.specs.Weights.{is_on, nonzeros, normalized}
use Rattle.seq.proofs.Keeping.{count_short}
use Rattle.ranking.specs.Ranking.{support, ranked, kept_count, rest_of}
use Rattle.halved.specs.Halve.{halved_once}
use Rattle.halved.specs.Handed.{halves_of}
use Rattle.passed.specs.Halving.{halved_twice, pass_of}
use Rattle.colored.specs.declared.Counted.{Counted}
use Rattle.passed.proofs.Rest.{length-ranked, length_rest, rest_some, rest_on}
use Rattle.draw.specs.declared.SplitMix64.{SplitMix64}

pub support-below : (w : List Float) (some : List ℕ) → some ≡ support w → Below some (length w)
support-below w some e = rw e (record { below = λ i l. (keep-good (is_on w) (length w) i l).1 })

pub rest_below : (w : List Float) (rest : List ℕ) → rest ≡ rest_of w → Below rest (length w)
rest_below w rest e = rw e (record { below = λ p l. (rest_on w p l).below })

pub rest_short : (w : List Float) (rest : List ℕ) → rest ≡ rest_of w → length rest ≤ length w
rest_short w rest e = omega (arith, ap length e, length_rest w, count_short (is_on w) (length w))

-- what follows the kept ones in the ranking
module _ (w : List Float) (order : List ℕ) (kept : ℕ) (e : order ≡ ranked w) (k : kept ≡ kept_count (length order)) where
  pub rest-lent : take (length order - kept) (drop kept order) ≡ rest_of w
  unfolding rest_of
  rest-lent = take_all (length order - kept) (drop kept order) (omega (arith, length-drop kept order)) ∙ rw (k, e)

  pub rest-lent-some : 2 ≤ nonzeros w → 0 < length (take (length order - kept) (drop kept order))
  rest-lent-some h = rw rest-lent (rest_some w h)

-- not all are kept
pub kept_within : (w : List Float) (order : List ℕ) (kept : ℕ) → order ≡ ranked w → kept ≡ kept_count (length order) → 2 ≤ nonzeros w → kept < length order
kept_within w order kept e k h = let long : length order ≡ nonzeros w = ap length e ∙ length-ranked w in omega arith

-- ---- the pass

pub pass_holds : (matrix : ℕ → ℕ → Float) (n : ℕ) (w v t out : List Float) (rest : List ℕ) (ω : Float) (a b c : Counted)
    → rest ≡ rest_of w → ω ≡ abs_of (at w (get_or rest 0 0))
    → halves_of v b ≡ halved_once plus_zero matrix n ω rest (halves_of w a)
    → halves_of t c ≡ halved_once plus_zero matrix n ω rest (halves_of v b)
    → out ≡ normalized plus_zero t
    → halves_of out c ≡ pass_of plus_zero matrix n (halves_of w a)
unfolding pass_of halved_twice
pass_holds matrix n w v t out rest ω a b c is-rest is-omega first second divided =
    let twice : halves_of t c ≡ halved_twice plus_zero matrix n (halves_of w a) =
    second ∙ ap (halved_once plus_zero matrix n ω rest) first ∙ rw (is-omega, is-rest) in
    rw (← twice) (ap (λ (v : List Float). halves_of v c) divided)
