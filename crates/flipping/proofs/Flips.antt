-- The steps of local search: a flip is made where it lowers the largest magnitude enough, and the sweeps go on while one was made.
use Prim.Native.Nat.{ℕ, zero, suc, ◌+◌, ◌-◌, ◌≤◌, ◌<◌}
use mathlib.Core.Path.{◌≡◌, refl, sym, ap, ◌∙◌}
use mathlib.Core.Bool.{Bool, true, false}
use mathlib.Core.List.{List}
use native.Mathlib.Omega.{arith}
use native.Mathlib.Numerals.{add-one}
use lib.ListN.{length, set}
use lib.Ieee.{Float, binary64, mul, neg, lt}
use Rattle.std.specs.Prelude.{Option, Some, None}
use Rattle.std.specs.Option.{unwrap_or, option_or}
use Rattle.seq.specs.Choice.{pick}
use Rattle.seq.specs.Lists.{tabulate}
use Rattle.seq.specs.Sums.{at}
use Rattle.linear.specs.Vectors.{max_abs_of}
use Rattle.ieee.specs.Magnitude.{max_abs_to}
use Rattle.columns.specs.Kernels.{less_column}
use Rattle.ieee.specs.Constants.{two}
use Rattle.flipping.specs.Search.{Searched, improvement, Search, improves, flipped, sweep_to, swept_of, search_to, searched}
use Rattle.flipping.specs.Searching.{unswept, search_of, Tried, Swept, searched_in}

-- ---- one column

module _ (column : ℕ → Float) (j : ℕ) (x ax : List Float) (best : Float) (below : Bool)
    (is : below ≡ lt (max_abs_to (less_column column (mul binary64 two (at x j)) ax) (length ax)) (mul binary64 best improvement)) where
  pub left_alone : below ≡ false → Tried column j (unswept x ax best) x ax None
  unfolding improves
  left_alone e = record { is = (sym is ∙ e, refl, refl) }

  pub turned-over : (ax' : List Float) (lower : Float) → below ≡ true
      → ax' ≡ tabulate (less_column column (mul binary64 two (at x j)) ax) (length ax) → lower ≡ max_abs_of ax'
      → Tried column j (unswept x ax best) (set x j (neg (at x j))) ax' (Some lower)
  unfolding improves flipped
  turned-over ax' lower e f g = record { is = (sym is ∙ e, rw (g, f)) }

-- ---- a sweep

-- one column more, where the flips before it answered f
pub sweep_turn : (a : ℕ → ℕ → Float) (from : Search) (x ax x' ax' : List Float) (best : Float) (f r : Option Float) (j : ℕ)
    → search_of x ax best f ≡ sweep_to a from j → Tried (a j) j (unswept x ax (unwrap_or f best)) x' ax' r
    → search_of x' ax' best (option_or r f) ≡ sweep_to a from (j + 1)
unfolding sweep_to improves flipped
sweep_turn a from x ax x' ax' best f None j e t = rw (add-one j, ← e, t.is.0, t.is.1, t.is.2)
sweep_turn a from x ax x' ax' best f (Some lower) j e t = rw (add-one j, ← e, t.is.0) t.is.1

-- ---- the sweeps

module _ (a : ℕ → ℕ → Float) (m : ℕ) where
  -- whether the sweep before it flipped one does not matter to the next
  afresh : (left made : ℕ) (s : Search)
      → search_to a m left made s ≡ search_to a m left made (record { x = s.x; ax = s.ax; best = s.best; improved = false })
  unfolding search_to
  afresh zero made s = refl
  afresh (suc left) made s = refl

  -- a sweep that flips one is followed by the others, and one that flips none is the last
  goes_on : (left made : ℕ) (s : Search) → (swept_of a m s).improved ≡ true
      → search_to a m (suc left) made s ≡ search_to a m left (suc made) (swept_of a m s)
  unfolding search_to
  goes_on left made s e = go (swept_of a m s).improved e
    where
      go : (t : Bool) → t ≡ true
          → pick t (search_to a m left (suc made) (swept_of a m s)) (searched_in (swept_of a m s).x (suc made)) ≡ search_to a m left (suc made) (swept_of a m s)
      go t e = rw e

  ends : (left made : ℕ) (s : Search) → (swept_of a m s).improved ≡ false → search_to a m (suc left) made s ≡ searched_in (swept_of a m s).x (suc made)
  unfolding search_to
  ends left made s e = go (swept_of a m s).improved e
    where
      go : (t : Bool) → t ≡ false
          → pick t (search_to a m left (suc made) (swept_of a m s)) (searched_in (swept_of a m s).x (suc made)) ≡ searched_in (swept_of a m s).x (suc made)
      go t e = rw e

  -- what is left of the sweeps after k of them
  abbrev pub remaining : ℕ → List Float → List Float → Float → Searched
  remaining k x ax best = search_to a m (100 - k) k (record { x = x; ax = ax; best = best; improved = false })

  module _ (k : ℕ) (x ax : List Float) (best : Float) (t : Search) (l : k < 100) (r : Swept a m x ax best t) where
    abbrev before : Search
    before = record { x = x; ax = ax; best = best; improved = false }

    fuel : 100 - k ≡ suc (100 - (k + 1))
    fuel = omega arith

    pub search_turn : t.improved ≡ true → remaining k x ax best ≡ remaining (k + 1) t.x t.ax t.best
    search_turn e =
        ap (λ (q : ℕ). search_to a m q k before) fuel
        ∙ goes_on (100 - (k + 1)) k before (ap (λ (s : Search). s.improved) (sym r.is) ∙ e)
        ∙ ap (λ (s : Search). search_to a m (100 - (k + 1)) (suc k) s) (sym r.is) ∙ afresh (100 - (k + 1)) (suc k) t
        ∙ ap (λ (made : ℕ). search_to a m (100 - (k + 1)) made (record { x = t.x; ax = t.ax; best = t.best; improved = false })) (sym (add-one k))

    pub search_stop : t.improved ≡ false → remaining k x ax best ≡ searched_in t.x (k + 1)
    search_stop e =
        ap (λ (q : ℕ). search_to a m q k before) fuel
        ∙ ends (100 - (k + 1)) k before (ap (λ (s : Search). s.improved) (sym r.is) ∙ e)
        ∙ ap (λ (s : Search). searched_in s.x (suc k)) (sym r.is) ∙ ap (searched_in t.x) (sym (add-one k))

  pub search_begun : (x ax : List Float) (best : Float) → best ≡ max_abs_of ax → searched a m x ax ≡ remaining 0 x ax best
  unfolding searched
  search_begun x ax best e = ap (λ (b : Float). search_to a m 100 0 (record { x = x; ax = ax; best = b; improved = false })) (sym e)

  pub search_over : (k : ℕ) (x ax : List Float) (best : Float) → 100 ≤ k → remaining k x ax best ≡ searched_in x k
  unfolding search_to
  search_over k x ax best h =
      let z : 100 - k ≡ 0 = omega arith in
      ap (λ (q : ℕ). search_to a m q k (record { x = x; ax = ax; best = best; improved = false })) z

  -- ---- how many sweeps

  to-most : (left made : ℕ) (s : Search) → (search_to a m left made s).sweeps ≤ left + made
  unfolding search_to
  to-most zero made s = omega arith
  to-most (suc left) made s = go (swept_of a m s).improved (to-most left (suc made) (swept_of a m s))
    where
      go : (t : Bool) → (search_to a m left (suc made) (swept_of a m s)).sweeps ≤ left + suc made
          → (pick t (search_to a m left (suc made) (swept_of a m s)) (searched_in (swept_of a m s).x (suc made))).sweeps ≤ suc left + made
      go true h = omega arith
      go false h = omega arith

  pub sweeps_most : (x ax : List Float) → (searched a m x ax).sweeps ≤ 100
  unfolding searched
  sweeps_most x ax = to-most 100 0 (record { x = x; ax = ax; best = max_abs_of ax; improved = false })
