-- Local search from the same colours flips the same ones, whatever rows of the matrix are turned: it goes by magnitudes of A x, and those are the same.
use Prim.Native.Nat.{ℕ, zero, suc}
use mathlib.Core.Path.{◌≡◌, refl, ap}
use mathlib.Core.Bool.{Bool}
use mathlib.Core.List.{List}
use lib.ListN.{length, set}
use lib.Ieee.{Float, binary64, mul, lt, neg}
use Rattle.seq.specs.Choice.{pick}
use Rattle.seq.specs.Sums.{at}
use Rattle.ieee.specs.Constants.{two}
use Rattle.ieee.specs.Magnitude.{max_abs_to}
use Rattle.ieee.proofs.Alikes.{alike_of_eq}
use Rattle.linear.specs.Vectors.{max_abs_of}
use Rattle.flipping.specs.Search.{improvement, Search, flipped_at, improves, flipped, sweep_to, swept_of, Searched, search_to, searched}
use Rattle.turning.proofs.Signed.{Facing, facing, unlike_none, sub_facing, mul_facing, max_abs_same}
use Rattle.turning.proofs.Pairs.{each_tabs, pick-both}
use Rattle.turning.proofs.Walks.{Along, at_facing}

-- the same colours and magnitudes
record SameSearch (turns : ℕ → Bool) (s s' : Search) : Type 0 where
  pub x : s.x ≡ s'.x
  pub ax : Along turns s.ax s'.ax
  pub best : s.best ≡ s'.best
  pub improved : s.improved ≡ s'.improved

-- the largest magnitude of A x
most_same : {turns : ℕ → Bool} {ax ax' : List Float} → Along turns ax ax' → max_abs_of ax ≡ max_abs_of ax'
most_same {turns} {ax} {ax'} p = rw p.long (max_abs_same turns (at ax) (at ax') (length ax') (at_facing p))

module _ (turns : ℕ → Bool) (a a' : ℕ → ℕ → Float) (same : (p i : ℕ) → Facing (turns i) (a p i) (a' p i)) where
  flipped_facing : (j : ℕ) {x x' : Float} {ax ax' : List Float} → x ≡ x' → Along turns ax ax' → (i : ℕ)
      → Facing (turns i) (flipped_at (a j) x ax i) (flipped_at (a' j) x' ax' i)
  flipped_facing j {x} {x'} e p i =
      sub_facing binary64 (at_facing p i)
      (mul_facing binary64 (unlike_none (turns i)) (facing (alike_of_eq (ap (mul binary64 two) e))) (same j i))

  module _ {s s' : Search} (r : SameSearch turns s s') (j : ℕ) where
    there : at s.x j ≡ at s'.x j
    there = ap (λ (x : List Float). at x j) r.x

    lowest_same : max_abs_to (flipped_at (a j) (at s.x j) s.ax) (length s.ax) ≡ max_abs_to (flipped_at (a' j) (at s'.x j) s'.ax) (length s'.ax)
    lowest_same = rw r.ax.long (max_abs_same turns _ _ (length s'.ax) (flipped_facing j there r.ax))

    improves_same : improves (a j) s j ≡ improves (a' j) s' j
    unfolding improves
    improves_same = λ i. lt (lowest_same i) (mul binary64 (r.best i) improvement)

    flipped_same : SameSearch turns (flipped (a j) s j) (flipped (a' j) s' j)
    unfolding flipped
    flipped_same =
        let ax = each_tabs (flipped_at (a j) (at s.x j) s.ax) (flipped_at (a' j) (at s'.x j) s'.ax) r.ax.long (flipped_facing j there r.ax) in
        record { x = ap (λ (x : List Float). set x j (neg (at x j))) r.x; ax = ax; best = most_same ax; improved = refl }

  sweep_same : {s s' : Search} → SameSearch turns s s' → (k : ℕ) → SameSearch turns (sweep_to a s k) (sweep_to a' s' k)
  unfolding sweep_to
  sweep_same r zero = r
  sweep_same r (suc k) =
      pick-both (SameSearch turns) (improves_same (sweep_same r k) k) (λ _. flipped_same (sweep_same r k) k) (sweep_same r k)

  search_same : (k left made : ℕ) {s s' : Search} → SameSearch turns s s' → search_to a k left made s ≡ search_to a' k left made s'
  unfolding search_to
  search_same k zero made r = ap (λ (x : List Float). record { x = x; sweeps = made }) r.x
  search_same k (suc left) made {s} {s'} r =
      let q : SameSearch turns (swept_of a k s) (swept_of a' k s') = sweep_same (record { x = r.x; ax = r.ax; best = r.best; improved = refl }) k in
      λ i. pick (q.improved i) (search_same k left (suc made) q i) (record { x = q.x i; sweeps = suc made })

  pub searched_same : (k : ℕ) (x : List Float) {ax ax' : List Float} → Along turns ax ax' → searched a k x ax ≡ searched a' k x ax'
  unfolding searched
  searched_same k x p = search_same k 100 0 (record { x = refl; ax = p; best = most_same p; improved = refl })
