-- Laws of a stretch of rows: the count of those that turn over a + b rows goes on from that over a rows.
use Prim.Native.Nat.{ℕ, zero, suc, ◌+◌, ◌≤◌, ◌<◌}
use mathlib.Core.Path.{◌≡◌, refl, sym, ap, ◌∙◌}
use mathlib.Core.Bool.{Bool, true, false, not, ◌&&◌, ◌||◌, beq}
use mathlib.Core.List.{List, ◌∷◌}
use native.Mathlib.Nat.{add-zero, add-suc}
use native.Mathlib.Omega.{arith}
use lib.ListN.{length}
use Rattle.std.specs.List.{filter, range_with_len}
use lib.Ieee.{Float, nan, lt}
use Rattle.seq.specs.Choice.{pick}
use Rattle.seq.specs.Lists.{tabulate}
use Rattle.seq.specs.Sums.{at}
use Rattle.seq.specs.Keep.{count}
use Rattle.seq.specs.Lists.{part}
use Rattle.seq.proofs.Filling.{length-tab, get_or-tab}
use Rattle.seq.proofs.Parts.{get_d_part}
use Rattle.seq.proofs.Keeping.{keep_short, length-keep}
use Rattle.turned.specs.Turned.{turns}
use Rattle.turned.specs.BlocksTurned.{turned_in}

-- the count over a + b is that over a and that over the b after them
pub count_parts : (f : ℕ → Bool) (a b : ℕ) → count f (a + b) ≡ count f a + count (λ i. f (a + i)) b
unfolding count
count_parts f a zero = rw (add-zero a) (omega arith)
count_parts f a (suc b) = rw (add-suc a b) (go (f (a + b)) (count_parts f a b))
  where
    go : (t : Bool) → count f (a + b) ≡ count f a + count (λ i. f (a + i)) b
        → pick t (suc (count f (a + b))) (count f (a + b)) ≡ count f a + pick t (suc (count (λ i. f (a + i)) b)) (count (λ i. f (a + i)) b)
    go true e = omega arith
    go false e = e

-- equal tests have an equal count
pub count_cong : (f g : ℕ → Bool) (k : ℕ) → ((i : ℕ) → i < k → f i ≡ g i) → count f k ≡ count g k
unfolding count
count_cong f g zero h = refl
count_cong f g (suc k) h = rw (count_cong f g k (λ i l. h i (omega arith)), h k (omega arith))

-- two blocks with the margins from a on, and the thresholds of these rows, add what turns in them to what turned before
pub count_block : (thresholds : List Float) (v w : ℕ → Float) (a b : ℕ) (was is : List Float)
    → was ≡ tabulate (λ i. v (a + i)) b → is ≡ tabulate (λ i. w (a + i)) b
    → count (λ i. turns (at thresholds i) (v i) (w i)) a + turned_in was is (part a b thresholds)
    ≡ count (λ i. turns (at thresholds i) (v i) (w i)) (a + b)
count_block thresholds v w a b was is e k =
    let first : List Float = tabulate (λ i. v (a + i)) b in
    let second : List Float = tabulate (λ i. w (a + i)) b in
    rw (
      count_parts (λ i. turns (at thresholds i) (v i) (w i)) a b,
      e,
      k,
      length-tab (λ i. v (a + i)) b,
      count_cong (λ i. turns (at (part a b thresholds) i) (at first i) (at second i))
          (λ i. turns (at thresholds (a + i)) (v (a + i)) (w (a + i))) b
          (λ i h. rw (
            get_d_part a b i thresholds nan h,
            get_or-tab (λ i. v (a + i)) b i nan h,
            get_or-tab (λ i. w (a + i)) b i nan h,
          )),
    )

-- a row turns where the two tests differ
pub differ : (threshold before after : Float) → turns threshold before after ≡ not (beq (lt threshold before) (lt threshold after))
differ t b a = go (lt t b) (lt t a)
  where
    go : (p q : Bool) → ((p && not q) || (q && not p)) ≡ not (beq p q)
    go true true = refl
    go true false = refl
    go false true = refl
    go false false = refl

-- a filter over the indices from a on keeps as many as are counted
kept : (f : ℕ → Bool) (a b : ℕ) → length (filter f (range_with_len a b)) ≡ count (λ i. f (a + i)) b
unfolding count
kept f a zero = refl
kept f a (suc b) = go (f a) refl (kept f (a + 1) b) ∙ sym (ap (count (λ i. f (a + i))) more ∙ count_parts (λ i. f (a + i)) 1 b)
  where
    more : suc b ≡ 1 + b
    more = omega arith

    shifted : count (λ i. f (a + 1 + i)) b ≡ count (λ i. f (a + (1 + i))) b
    shifted = count_cong _ _ b (λ i h. ap f (let e : a + 1 + i ≡ a + (1 + i) = omega arith in e))

    go : (t : Bool) → f a ≡ t → length (filter f (range_with_len (a + 1) b)) ≡ count (λ i. f (a + 1 + i)) b
        → length (filter f (a ∷ range_with_len (a + 1) b)) ≡ count (λ i. f (a + i)) 1 + count (λ i. f (a + (1 + i))) b
    go true e r = rw (add-zero a, e) (omega (arith, r ∙ shifted))
    go false e r = rw (add-zero a, e) (omega (arith, r ∙ shifted))

-- the rows at which the two tests differ are those that turn
pub turned_rows : (thresholds before after : List Float) (k : ℕ)
    → length (filter (λ i. not (beq (lt (at thresholds i) (at before i)) (lt (at thresholds i) (at after i)))) (range_with_len 0 k))
    ≡ count (λ i. turns (at thresholds i) (at before i) (at after i)) k
turned_rows thresholds before after k =
    let f : ℕ → Bool = λ i. not (beq (lt (at thresholds i) (at before i)) (lt (at thresholds i) (at after i))) in
    kept f 0 k
    ∙ count_cong (λ i. f (0 + i)) (λ i. turns (at thresholds i) (at before i) (at after i)) k
    (λ i h. ap f (let e : 0 + i ≡ i = omega arith in e) ∙ sym (differ (at thresholds i) (at before i) (at after i)))

-- a count is at most what it runs over
pub count_short : (f : ℕ → Bool) (k r : ℕ) → r ≡ count f k → r ≤ k
count_short f k r e = omega (arith, length-keep f k, keep_short f k)
