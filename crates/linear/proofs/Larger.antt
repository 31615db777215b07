-- The largest magnitude is never a NaN, so that what is not above it leaves it as it is.
use Prim.Native.Nat.{ℕ, zero, suc, ◌+◌, ◌-◌, ◌≤◌, ◌<◌}
use mathlib.Core.Path.{◌≡◌, refl, sym, ap, subst, ◌∙◌}
use mathlib.Core.Logic.{◌⊎◌, inl, inr}
use mathlib.Core.Bool.{false}
use mathlib.Core.List.{List}
use native.Mathlib.Omega.{arith}
use native.Mathlib.Nat.{eq-or-lt_of_le}
use lib.ListN.{length}
use lib.Ieee.{Float, nan, inf, fin, of_bits, is_nan, lt}
use Rattle.seq.specs.Sums.{at}
use Rattle.ieee.specs.Magnitude.{abs_of, larger_of, max_abs_to}
use Rattle.ieee.proofs.Maximum.{larger_nan}
use Rattle.ieee.proofs.Results.{larger_has}
use Rattle.linear.specs.Larger.{NoLarger}

larger_number : (x y : Float) → is_nan x ≡ false → is_nan (larger_of x y) ≡ false
unfolding is_nan
larger_number x nan h = ap is_nan (larger_nan x) ∙ h
larger_number x (inf s) h = larger_has (λ (z : Float). is_nan z ≡ false) x (inf s) h refl
larger_number x (fin s m e) h = larger_has (λ (z : Float). is_nan z ≡ false) x (fin s m e) h refl

max_number : (v : ℕ → Float) (k : ℕ) → is_nan (max_abs_to v k) ≡ false
unfolding max_abs_to of_bits is_nan
max_number v zero = refl
max_number v (suc k) = larger_number (max_abs_to v k) (abs_of (v k)) (max_number v k)

larger_stays : (x y : Float) → is_nan x ≡ false → lt x y ≡ false → larger_of x y ≡ x
unfolding larger_of
larger_stays x y h e = rw (h, e)

pub max-more : (v : ℕ → Float) (k : ℕ) → max_abs_to v (suc k) ≡ larger_of (max_abs_to v k) (abs_of (v k))
unfolding max_abs_to
max-more v k = refl

-- d places more, none of them above
max_on : (v : ℕ → Float) (from d : ℕ) → ((k : ℕ) → from ≤ k → k < from + d → lt (max_abs_to v from) (abs_of (v k)) ≡ false) → max_abs_to
    v (from + d) ≡ max_abs_to v from
max_on v from zero h =
    let e : from + 0 ≡ from = omega arith in
    ap (max_abs_to v) e
max_on v from (suc d) h =
    let before : max_abs_to v (from + d) ≡ max_abs_to v from = max_on v from d (λ k l m. h k l (omega arith)) in
    let stays : larger_of (max_abs_to v from) (abs_of (v (from + d))) ≡ max_abs_to v from = larger_stays _ _ (max_number v from)
    (h (from + d) (omega arith) (omega arith)) in
    let e : from + suc d ≡ suc (from + d) = omega arith in
    ap (max_abs_to v) e ∙ max-more v (from + d) ∙ ap (λ (x : Float). larger_of x (abs_of (v (from + d)))) before ∙ stays

pub max-passed : {a : List Float} {most : Float} {from r : ℕ} → NoLarger a most from r → most ≡ max_abs_to (at a) from → most ≡ max_abs_to (at a) r
max-passed {a} {most} {from} {r} p e =
    let d : from + (r - from) ≡ r = omega (arith, p.low) in
    e ∙ sym (max_on (at a) from (r - from)
    (λ k l m. subst (λ (x : Float). lt x (abs_of (at a k)) ≡ false) e (p.none k l (omega arith)))) ∙ ap (max_abs_to (at a))
    d

-- no place, and one place more, is passed over
pub none_larger : (a : List Float) (most : Float) (from : ℕ) → NoLarger a most from from
none_larger a most from = record { low = omega arith; inside = λ h. h; none = λ k l m. absurd (omega arith) }

pub one_not_larger : {a : List Float} {most : Float} {from i : ℕ} → NoLarger a most from i → i < length a → lt most
    (abs_of (at a i)) ≡ false → NoLarger a most from (i + 1)
one_not_larger {a} {most} {from} {i} p h e =
    record { low = omega (arith, p.low); inside = λ l. omega arith; none = λ k l m. at_most k l (eq-or-lt_of_le (omega arith)) }
  where
    at_most : (k : ℕ) → from ≤ k → (k ≡ i) ⊎ (k < i) → lt most (abs_of (at a k)) ≡ false
    at_most k l (inl o) = rw o e
    at_most k l (inr o) = p.none k l o
