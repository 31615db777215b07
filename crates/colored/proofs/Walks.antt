-- The loop of the walk: where it starts, its turns, and where it ends; and what is left to do once it has.
use Prim.Native.Nat.{ℕ, ◌+◌, ◌*◌, ◌≤◌, ◌<◌}
use mathlib.Core.Path.{◌≡◌, sym, ap, ◌∙◌}
use mathlib.Core.Logic.{◌≢◌}
use mathlib.Core.List.{List, ◌++◌}
use native.Mathlib.Omega.{arith}
use borrow.Author.Tests.{eq-eqb, ne_eqb}
use lib.ListN.{length, take, drop}
use lib.Seq.{length-take-le, take_at}
use lib.Ieee.{Float}
use Rattle.seq.specs.Lists.{repeated}
use Rattle.seq.specs.Sums.{plus_zero}
use Rattle.seq.specs.Until.{run}
use Rattle.seq.proofs.Filling.{length-tab}
use Rattle.seq.proofs.Loops.{turns, stays}
use Rattle.chosen.specs.Rows.{times}
use Rattle.walked.specs.Walk.{free_ones}
use Rattle.phased.specs.Phase.{Between, phased}
use Rattle.colored.specs.Coloring.{settled, walked, coloring_of}
use Rattle.flipping.specs.Search.{Searched, searched}
use Rattle.flipping.specs.Searching.{searched_in}
use Rattle.phased.specs.Phasing.{between}
use Rattle.colored.specs.Fresh.{Fresh, ColoredAs}
use Rattle.colored.specs.declared.Counted.{Counted}
use Rattle.blocking.specs.Held.{Roomy}
use Rattle.colored.proofs.Phases.{falls}
use Rattle.colored.proofs.Counts.{phased_few}
use Rattle.draw.specs.declared.SplitMix64.{SplitMix64}

-- the room that the phases share stays as long as it was made
pub record Rooms (ps cs : List ℕ) (ss xs : List Float) (fs : List ℕ) (ds : List Float) : Type 0 where
  pub places : length ps ≡ 256
  pub subcols : length cs ≡ 256
  pub subscale : length ss ≡ 256
  pub subx : length xs ≡ 256
  pub subfree : length fs ≡ 256
  pub g : length ds ≡ 256

module _ (z : Float) (a : ℕ → ℕ → Float) (k n : ℕ) where
  -- what is left of the walk from b
  abbrev pub onward : Between → Between
  onward b = run settled (phased z a k n) (free_ones b.free) b

  pub walk_begun : (rng : SplitMix64) (numbers x : List Float) (free : List ℕ) → Fresh k n numbers x free → walked z a k n rng
      ≡ onward (between n numbers x free rng 0)
  unfolding walked
  walk_begun rng numbers x free f = rw (f.zero, f.all, f.flat)

  module _ (b b' : Between) (next : b' ≡ phased z a k n b) (goes : free_ones b.free ≢ 0) where
    pub walk_falls : free_ones b'.free < free_ones b.free
    walk_falls = rw next (falls z a k n b (ne_eqb (free_ones b.free) 0 goes))

    -- and draws no more directions than that allows
    pub walk_few : length b.free ≡ k → b'.directions + 2 * free_ones b'.free ≤ b.directions + 2 * free_ones b.free
    walk_few e = rw next (phased_few z a k n b e (ne_eqb (free_ones b.free) 0 goes))

    pub walk_turn : onward b ≡ onward b'
    walk_turn = turns settled (phased z a k n) (λ c. free_ones c.free) (falls z a k n) b (ne_eqb (free_ones b.free) 0 goes) ∙ ap onward (sym next)

  pub walk_over : (b : Between) → free_ones b.free ≡ 0 → onward b ≡ b
  walk_over b e = stays settled (phased z a k n) (λ c. free_ones c.free) (falls z a k n) (free_ones b.free) b (eq-eqb (free_ones b.free) 0 e)

-- the scratch has room as long as the lengths stay
pub roomy_still : (k : ℕ) (numbers numbers' : List Float) (blocked blocked' : List ℕ) (x x' : List Float) (free free' : List ℕ)
    → Roomy k numbers blocked x free 0
    → length numbers' ≡ length numbers → length blocked' ≡ length blocked → length x' ≡ length x → length free' ≡ length free
    → Roomy k numbers' blocked' x' free' 0
roomy_still k numbers numbers' blocked blocked' x x' free free' r en eb ex ef =
    record { room = rw (en, eb) r.room; wide = ex ∙ r.wide; marks = ef ∙ r.marks; most = omega arith }

-- what stands once x, the front of the scratch and the marks are filled anew is where the walk starts
pub fresh_is : (k rows : ℕ) (numbers x x' ys : List Float) (free free' : List ℕ) → length x ≡ k → length free ≡ k → rows ≤ length numbers
    → x' ≡ repeated plus_zero (length x) → ys ≡ repeated plus_zero (length (take rows numbers)) → free' ≡ repeated 1 (length free)
    → Fresh k rows (ys ++ drop rows numbers) x' free'
fresh_is k rows numbers x x' ys free free' lx lf h ex ey ef =
    let m : length (take rows numbers) ≡ rows = length-take-le rows numbers h in
    let y : ys ≡ repeated plus_zero rows = ey ∙ ap (repeated plus_zero) m in
    record {
      zero = ex ∙ ap (repeated plus_zero) lx;
      all = ef ∙ ap (repeated 1) lf;
      flat = take_at ys (drop rows numbers) rows (ap length y ∙ length-tab (λ _. plus_zero) rows) ∙ y;
    }

-- the walk, and local search from its colours
pub colors : (a : ℕ → ℕ → Float) (k rows : ℕ) (rng : SplitMix64) (m directions : ℕ) (numbers x x' : List Float) (free : List ℕ) (r : Counted)
    → between rows numbers x free r.rng directions ≡ walked plus_zero a k rows rng → r.directions ≡ directions → m ≡ rows
    → searched_in x' r.sweeps ≡ searched a k x (times plus_zero a k m x)
    → ColoredAs x' r (coloring_of plus_zero a k rows rng)
unfolding coloring_of
colors a k rows rng m directions numbers x x' free r w d e s =
    let f : searched_in x' r.sweeps ≡ searched a k (walked plus_zero a k rows rng).x (times plus_zero a k rows (walked plus_zero a k rows rng).x) =
    s ∙ ap (λ (i : ℕ). searched a k x (times plus_zero a k i x)) e ∙ ap (λ (b : Between). searched a k b.x (times plus_zero a k rows b.x)) w in
    record {
      colours = ap (λ (o : Searched). o.x) f;
      draws = ap (λ (b : Between). b.rng) w;
      directions = d ∙ ap (λ (b : Between). b.directions) w;
      sweeps = ap (λ (o : Searched). o.sweeps) f;
    }
