-- Document 01 counted the rows whose margin goes from above 0 to below 0. With every threshold 0, of either sign, no such row is missed:
-- the count is never below that one.
use Prim.Native.Nat.{ℕ, zero, suc, ◌+◌, ◌*◌, ◌≤◌, ◌<◌}
use mathlib.Core.Path.{◌≡◌, refl, sym}
use mathlib.Core.Bool.{Bool, true, false, not, ◌&&◌, ◌||◌}
use mathlib.Core.List.{List}
use native.Mathlib.Omega.{arith}
use borrow.Author.Tests.{ltb-true, le-ltb}
use lib.Dec.{ltb}
use lib.Ieee.{Float, nan, inf, fin, lt, below, up, down}
use Rattle.seq.specs.Choice.{pick}
use Rattle.seq.specs.Sums.{plus_zero, at}
use Rattle.seq.specs.Keep.{count}
use Rattle.ieee.specs.Flat.{Alike}
use Rattle.ieee.proofs.Alikes.{alike_refl, lt_alike}
use Rattle.turned.specs.Turned.{margin_at, turns, turns_at, turned_count}

-- a margin that was above 0 is below 0
abbrev pub fell : Float → Float → Bool
fell before after = lt plus_zero before && lt after plus_zero

-- how many of the n rows fell
abbrev pub fallen_count : (ℕ → ℕ → Float) → ℕ → ℕ → List Float → List Float → ℕ
fallen_count matrix m n before after = count (λ i. fell (margin_at matrix m before i) (margin_at matrix m after i)) n

-- what passes one test passes the other, so that the other's count is no less
pub count-more : (f g : ℕ → Bool) (k : ℕ) → ((i : ℕ) → i < k → f i ≡ true → g i ≡ true) → count f k ≤ count g k
unfolding count
count-more f g zero h = omega arith
count-more f g (suc k) h = go (f k) (g k) (h k (omega arith)) (count-more f g k (λ i l. h i (omega arith)))
  where
    go : (p q : Bool) → (p ≡ true → q ≡ true) → count f k ≤ count g k → pick p (suc (count f k)) (count f k) ≤ pick q (suc (count g k)) (count g k)
    go true q h l = rw (h refl) (omega arith)
    go false true h l = omega arith
    go false false h l = l

one_less : (a b : ℕ) → (ltb a b && ltb b a) ≡ false
one_less a b = go (ltb a b) refl
  where
    go : (t : Bool) → ltb a b ≡ t → (t && ltb b a) ≡ false
    go true e = le-ltb b a (omega (arith, ltb-true a b e))
    go false e = refl

and_false : (t : Bool) → (t && false) ≡ false
and_false true = refl
and_false false = refl

-- of ±a and ±b at most one is below the other
one-under : (s : Bool) (a : ℕ) (t : Bool) (b : ℕ) → (below s a t b && below t b s a) ≡ false
one-under false a false b = one_less a b
one-under false a true b = refl
one-under true a false b = and_false (ltb 0 (a + b))
one-under true a true b = one_less b a

-- of two numbers at most one is below the other
pub one_below : (x y : Float) → (lt x y && lt y x) ≡ false
unfolding lt
one_below nan nan = refl
one_below nan (inf t) = refl
one_below nan (fin t n d) = refl
one_below (inf s) nan = refl
one_below (inf true) (inf true) = refl
one_below (inf true) (inf false) = refl
one_below (inf false) (inf true) = refl
one_below (inf false) (inf false) = refl
one_below (inf true) (fin t n d) = refl
one_below (inf false) (fin t n d) = refl
one_below (fin s m e) nan = refl
one_below (fin s m e) (inf true) = refl
one_below (fin s m e) (inf false) = refl
one_below (fin s m e) (fin t n d) = one-under s (m * up e * down d) t (n * up d * down e)

-- what fell turns, at a threshold of 0
pub falls_turn : (threshold before after : Float) → Alike threshold plus_zero → fell before after ≡ true → turns threshold before after ≡ true
falls_turn threshold before after z e =
    rw (lt_alike z (alike_refl before), lt_alike z (alike_refl after))
    (go (lt plus_zero before) (lt after plus_zero) (lt plus_zero after) e (one_below plus_zero after))
  where
    go : (p q r : Bool) → (p && q) ≡ true → (r && q) ≡ false → ((p && not r) || (r && not p)) ≡ true
    go true true true e k = sym k
    go true true false e k = refl
    go true false r e k = let z : ◌≡◌ {A = ℕ} 0 1 = cc in absurd (omega arith)
    go false q r e k = let z : ◌≡◌ {A = ℕ} 0 1 = cc in absurd (omega arith)

-- the count is never below document 01's, where every threshold is 0
pub never_below : (matrix : ℕ → ℕ → Float) (m n : ℕ) (before after thresholds : List Float)
    → ((i : ℕ) → i < n → Alike (at thresholds i) plus_zero)
    → fallen_count matrix m n before after ≤ turned_count matrix m n before after thresholds
unfolding turned_count
never_below matrix m n before after thresholds z =
    count-more (λ i. fell (margin_at matrix m before i) (margin_at matrix m after i)) (turns_at matrix m before after thresholds) n
    (λ i l. falls_turn (at thresholds i) (margin_at matrix m before i) (margin_at matrix m after i) (z i l))
