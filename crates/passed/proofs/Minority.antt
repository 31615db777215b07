-- At most half of the colours are σ: of one colour or more at least one is not, and a lone colour never is.
use borrow.Author.Tests.{leb-true, leb-false}
use Prim.Native.Nat.{ℕ, zero, suc, ◌+◌, ◌*◌, ◌≤◌, ◌<◌}
use mathlib.Core.Path.{◌≡◌, refl, sym, subst}
use mathlib.Core.Logic.{◌⊎◌, inl, inr}
use mathlib.Core.Bool.{Bool, true, false}
use mathlib.Core.List.{List}
use native.Mathlib.Decide.{ℕ_discrete}
use native.Mathlib.Omega.{arith}
use lib.Dec.{T, leb}
use lib.ListN.{length}
use lib.Ieee.{Float, lt, eq, of_bits}
use Rattle.seq.proofs.Choosing.{holds}
use Rattle.seq.specs.Choice.{pick}
use Rattle.seq.specs.Sums.{plus_zero, at}
use Rattle.seq.specs.Keep.{count}
use Rattle.ieee.specs.Constants.{one, minus_one}
use Rattle.ieee.proofs.Counting.{count-le}
use Rattle.places.proofs.Places.{count_all}
use Rattle.colored.proofs.Marked.{Colour}
use Rattle.colored.proofs.Colours.{Coloured}
use Rattle.doubling.specs.Doubling.{sigma_of}

-- a place below k at which a test fails
pub record Fails (f : ℕ → Bool) (k : ℕ) : Type 0 where
  pub place : ℕ
  pub under : place < k
  pub not_there : f place ≡ false

-- a test holds everywhere, or fails somewhere
all_or_fails : (f : ℕ → Bool) (k : ℕ) → ((p : ℕ) → p < k → f p ≡ true) ⊎ Fails f k
all_or_fails f zero = inl (λ p l. absurd (omega arith))
all_or_fails f (suc k) = go (f k) refl (all_or_fails f k)
  where
    go : (t : Bool) → f k ≡ t → ((p : ℕ) → p < k → f p ≡ true) ⊎ Fails f k → ((p : ℕ) → p < suc k → f p ≡ true) ⊎ Fails f (suc k)
    go false e r = inr (record { place = k; under = omega arith; not_there = e })
    go true e (inr s) = inr (record { place = s.place; under = omega (arith, s.under); not_there = s.not_there })
    go true e (inl s) = inl (λ p l. last p l (ℕ_discrete p k))
      where
        last : (p : ℕ) → p < suc k → Dec (p ≡ k) → f p ≡ true
        last p l (yes q) = rw q e
        last p l (no q) = s p (omega arith)

-- two tests of which the second fails where the first holds
apart_counts : (f g : ℕ → Bool) (k : ℕ) → ((p : ℕ) → p < k → f p ≡ true → g p ≡ false) → count f k + count g k ≤ k
unfolding count
apart_counts f g zero h = omega arith
apart_counts f g (suc k) h = go (f k) (g k) (h k (omega arith)) (apart_counts f g k (λ p l. h p (omega arith)))
  where
    go : (s t : Bool) → (s ≡ true → t ≡ false) → count f k + count g k ≤ k → pick s (suc (count f k)) (count f k) + pick t (suc (count g k)) (count g k) ≤ suc k
    go true true e r = absurd (subst T (e refl) tt)
    go true false e r = omega arith
    go false true e r = omega arith
    go false false e r = omega arith

-- ---- the two colours are told apart

unlike-one : eq minus_one one ≡ false
unfolding eq of_bits
unlike-one = refl

unlike-minus-one : eq one minus_one ≡ false
unfolding eq of_bits
unlike-minus-one = refl

one-above : lt plus_zero one ≡ true
unfolding lt of_bits
one-above = refl

minus-one-below : lt plus_zero minus_one ≡ false
unfolding lt of_bits
minus-one-below = refl

-- where σ is 1.0, a colour σ is above 0; where it is -1.0, not
is_one : {v : Float} → Colour v → eq v one ≡ true → lt plus_zero v ≡ true
is_one (inl e) h = rw e one-above
is_one (inr e) h = let t : ◌≡◌ {A = Bool} true false = cc (unlike-one) in let z : ◌≡◌ {A = ℕ} 0 1 = cc in absurd (omega arith)

is_minus-one : {v : Float} → Colour v → eq v minus_one ≡ true → lt plus_zero v ≡ false
is_minus-one (inl e) h = let t : ◌≡◌ {A = Bool} true false = cc (unlike-minus-one) in let z : ◌≡◌ {A = ℕ} 0 1 = cc in absurd (omega arith)
is_minus-one (inr e) h = rw e minus-one-below

-- ---- the minority

-- at most half of the colours are σ
pub at-most-half : {k : ℕ} {x : List Float} → Coloured k x → 2 * count (λ p. eq (at x p) (sigma_of x)) k ≤ k
at-most-half {k} {x} c = go (leb (2 * count up (length x)) (length x)) refl
  where
    up : ℕ → Bool
    up p = lt plus_zero (at x p)

    go : (t : Bool) → leb (2 * count up (length x)) (length x) ≡ t → 2 * count (λ p. eq (at x p) (pick t one minus_one)) k ≤ k
    go true e =
        let n : count (λ p. eq (at x p) one) k ≤ count up k = count-le (λ p. eq (at x p) one) up k
        (λ p l h. subst T (sym (is_one (c.each p l) (holds (eq (at x p) one) h))) tt) in
        let l : 2 * count up k ≤ k = rw c.long at (leb-true (2 * count up (length x)) (length x) e) in
        omega arith
    go false e =
        let n : count (λ p. eq (at x p) minus_one) k + count up k ≤ k = apart_counts (λ p. eq (at x p) minus_one) up k (λ p l. is_minus-one (c.each p l)) in
        let l : k < 2 * count up k = rw c.long at (leb-false (2 * count up (length x)) (length x) e) in
        omega arith

pub minority : {k : ℕ} {x : List Float} → Coloured k x → 0 < k → Fails (λ p. eq (at x p) (sigma_of x)) k
minority {k} {x} c h = some (all_or_fails (λ p. eq (at x p) (sigma_of x)) k)
  where
    some : ((p : ℕ) → p < k → eq (at x p) (sigma_of x) ≡ true) ⊎ Fails (λ p. eq (at x p) (sigma_of x)) k → Fails (λ p. eq (at x p) (sigma_of x)) k
    some (inr f) = f
    some (inl all) = absurd (omega (arith, count_all (λ p. eq (at x p) (sigma_of x)) k all, at-most-half c))

-- a lone colour is the majority, whichever it is
pub lone : {x : List Float} → Coloured 1 x → eq (at x 0) (sigma_of x) ≡ false
lone {x} c =
    let f = minority c (omega arith) in
    let here : f.place ≡ 0 = omega (arith, f.under) in
    rw here at f.not_there
