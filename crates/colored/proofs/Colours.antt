-- Every colour is 1.0 or -1.0, for every matrix, NaN and infinite entries too. In the walk a coordinate is marked free or has its colour:
-- one that freezes is snapped to its sign and is no NaN, and rounding gives 1 or -1. At the walk's end none is free, and local search only negates.
use Prim.Native.Nat.{ℕ, zero, suc, ◌+◌, ◌<◌}
use mathlib.Core.Path.{◌≡◌, refl, sym, ap, ◌∙◌}
use mathlib.Core.Bool.{Bool, true, false}
use mathlib.Core.List.{List}
use native.Mathlib.Omega.{arith}
use borrow.Author.Tests.{eqb-true, eqb-false}
use lib.Dec.{eqb}
use lib.ListN.{length, set, length-set}
use lib.Seq.{get_or-set_same, get_or-set_other}
use lib.Ieee.{Float, nan, neg, le}
use Rattle.seq.specs.Choice.{pick}
use Rattle.seq.specs.Lists.{tabulate, repeated}
use Rattle.seq.specs.Sums.{plus_zero, at}
use Rattle.seq.specs.Keep.{keep, count}
use Rattle.seq.proofs.Filling.{length-tab, get_or-tab}
use Rattle.seq.proofs.Keeping.{length-keep}
use Rattle.chosen.specs.Rows.{times}
use Rattle.seq.specs.Marks.{is_set}
use Rattle.ieee.specs.Constants.{one, minus_one}
use Rattle.linear.specs.Vectors.{max_abs_of}
use Rattle.flipping.specs.Search.{Search, improves, flipped, sweep_to, swept_of, search_to, searched}
use Rattle.places.specs.Places.{rounded_at}
use Rattle.phased.specs.Phase.{Between, rounded_off, phased}
use Rattle.colored.specs.Coloring.{settled, walked, coloring_of}
use Rattle.places.proofs.Places.{off, get_d_any, length-put_back, back, back_at, back_other, count-before, none_passes}
use Rattle.walked.proofs.Counts.{run-keeps}
use Rattle.colored.proofs.Marked.{Colour, negated, rounded, picked, Sound, all_free, phase_keeps}
use Rattle.colored.proofs.Phases.{inside_course, inside_phase, put, walk_settles}
use Rattle.walked.specs.Walk.{free_ones}
use Rattle.draw.specs.declared.SplitMix64.{SplitMix64}

-- ---- between two phases

-- the phase's coordinates back at their places
module _ (k l : ℕ) (x ws : List Float) (free fs : List ℕ) (whole : Sound k x free) (part : Sound l ws fs)
    (marks : length free ≡ k) (few : length (keep (is_set free) k) ≡ l) where
  put-at : (j : ℕ) → j < k → (t : Bool) → is_set free j ≡ t → is_set (put free fs k) j ≡ false → Colour (at (back plus_zero (is_set free) ws x k) j)
  put-at j h true e f =
      let m : count (is_set free) j < l = omega (arith, count-before (is_set free) k j h e, length-keep (is_set free) k) in
      let g : is_set fs (count (is_set free) j) ≡ false = ap (λ (i : ℕ). eqb i 1) (sym (back_at 0 0 (is_set free) fs free k j h (omega arith) e)) ∙ f in
      rw (
        back_at plus_zero nan (is_set free) ws x k j h (omega (arith, whole.long)) e,
        get_d_any ws (count (is_set free) j) plus_zero nan (omega (arith, part.long)),
      )
      (part.coloured (count (is_set free) j) m g)
  put-at j h false e f = rw (back_other plus_zero nan (is_set free) ws x k j (λ _. e)) (whole.coloured j h e)

  put-sound : Sound k (back plus_zero (is_set free) ws x k) (put free fs k)
  put-sound =
      record {
        long = length-put_back plus_zero (keep (is_set free) k) ws x (length (keep (is_set free) k)) ∙ whole.long;
        coloured = λ j h e. put-at j h (is_set free j) refl e;
      }

-- rounding gives each that is free its colour
round-sound : (k : ℕ) (x : List Float) (free free' : List ℕ) → Sound k x free → Sound k (tabulate (rounded_at x free) (length x)) free'
round-sound k x free free' s =
    record {
      long = length-tab (rounded_at x free) (length x) ∙ s.long;
      coloured = λ j h e. rw (get_or-tab (rounded_at x free) (length x) j nan (rw s.long h)) (go j h (is_set free j) refl);
    }
  where
    go : (j : ℕ) → j < k → (t : Bool) → is_set free j ≡ t → Colour (pick t (pick (le plus_zero (at x j)) one minus_one) (at x j))
    go j h true e = rounded (le plus_zero (at x j))
    go j h false e = s.coloured j h e

-- k coordinates, and a mark for each
pub record Standing (k : ℕ) (b : Between) : Type 0 where
  pub sound : Sound k b.x b.free
  pub marks : length b.free ≡ k

-- where the walk starts
pub start-stands : (k : ℕ) (ax : List Float) (rng : SplitMix64) → Standing k
    (record { x = repeated plus_zero k; free = repeated 1 k; ax = ax; rng = rng; directions = 0 })
start-stands k ax rng =
    record {
      sound = record { long = length-tab (λ _. plus_zero) k; coloured = λ j h f. absurd (off (sym (all_free k j h) ∙ f)) };
      marks = length-tab {A = ℕ} (λ _. 1) k;
    }

module _ (z : Float) (a : ℕ → ℕ → Float) (k n : ℕ) where
  pub phased-sound : (b : Between) → Standing k b → Standing k (phased z a k n b)
  unfolding phased
  phased-sound b s = picked (Standing k) (eqb (inside_phase z a k n b).frozen 0) (rounded_off after) after
      (record {
        sound = round-sound k after.x after.free (repeated 0 (length after.free)) sound;
        marks = length-tab {A = ℕ} (λ _. 0) (length after.free) ∙ marks;
      })
      (record { sound = sound; marks = marks })
    where
      after : Between
      after = record {
        x = back plus_zero (is_set b.free) (inside_phase z a k n b).x b.x k;
        free = put b.free (inside_phase z a k n b).free k;
        ax = (inside_phase z a k n b).ax;
        rng = (inside_phase z a k n b).rng;
        directions = b.directions + (inside_course z a k n b).directions;
      }

      sound : Sound k after.x after.free
      sound =
          put-sound k (length (keep (is_set b.free) k)) b.x (inside_phase z a k n b).x b.free (inside_phase z a k n b).free s.sound
          (phase_keeps z _ _ n _ b.ax b.rng (length-tab _ (length (keep (is_set b.free) k)))).sound s.marks refl

      marks : length after.free ≡ k
      marks = length-put_back 0 (keep (is_set b.free) k) (inside_phase z a k n b).free b.free (length (keep (is_set b.free) k)) ∙ s.marks

  pub walked-sound : (rng : SplitMix64) → Standing k (walked z a k n rng)
  unfolding walked
  walked-sound rng = run-keeps (Standing k) settled (phased z a k n) (λ b _. phased-sound b) _ _ (start-stands k (repeated plus_zero n) rng)

-- ---- local search

-- k colours
pub record Coloured (k : ℕ) (x : List Float) : Type 0 where
  pub long : length x ≡ k
  pub each : (j : ℕ) → j < k → Colour (at x j)

negated_at : (k i : ℕ) (x : List Float) → Coloured k x → Coloured k (set x i (neg (at x i)))
negated_at k i x c = record { long = length-set x i (neg (at x i)) ∙ c.long; each = λ j h. go j h (eqb j i) refl }
  where
    go : (j : ℕ) → j < k → (t : Bool) → eqb j i ≡ t → Colour (at (set x i (neg (at x i))) j)
    go j h true g =
        let e : j ≡ i = eqb-true j i g in
        rw (e, get_or-set_same x i (neg (at x i)) nan (rw (c.long, ← e) h)) (negated (c.each i (rw (← e) h)))
    go j h false g = rw (get_or-set_other x i j (neg (at x i)) nan (eqb-false j i g)) (c.each j h)

module _ (a : ℕ → ℕ → Float) (k : ℕ) where
  sweep_coloured : (s : Search) (m : ℕ) → Coloured k s.x → Coloured k (sweep_to a s m).x
  unfolding sweep_to flipped
  sweep_coloured s zero c = c
  sweep_coloured s (suc m) c =
      let r : Search = sweep_to a s m in
      picked (λ t. Coloured k t.x) (improves (a m) r m) (flipped (a m) r m) r
      (negated_at k m r.x (sweep_coloured s m c)) (sweep_coloured s m c)

  search_coloured : (m left made : ℕ) (s : Search) → Coloured k s.x → Coloured k (search_to a m left made s).x
  unfolding search_to
  search_coloured m zero made s c = c
  search_coloured m (suc left) made s c =
      let r : Search = swept_of a m s in
      let d : Coloured k r.x = sweep_coloured (record { x = s.x; ax = s.ax; best = s.best; improved = false }) m c in
      picked (λ t. Coloured k t.x) r.improved (search_to a m left (suc made) r) (record { x = r.x; sweeps = suc made })
      (search_coloured m left (suc made) r d) d

  searched_coloured : (m : ℕ) (x ax : List Float) → Coloured k x → Coloured k (searched a m x ax).x
  unfolding searched
  searched_coloured m x ax c = search_coloured m 100 0 (record { x = x; ax = ax; best = max_abs_of ax; improved = false }) c

-- ---- the whole

module _ (z : Float) (a : ℕ → ℕ → Float) (k n : ℕ) where
  -- at the walk's end each of the k coordinates has its colour
  pub walk_colours : (rng : SplitMix64) → Coloured k (walked z a k n rng).x
  walk_colours rng =
      let s : Standing k (walked z a k n rng) = walked-sound z a k n rng in
      let e : free_ones (walked z a k n rng).free ≡ 0 = eqb-true _ 0 (walk_settles z a k n rng) in
      record {
        long = s.sound.long;
        each = λ j h. s.sound.coloured j h (none_passes (is_set (walked z a k n rng).free) (length (walked z a k n rng).free) j e (rw s.marks h));
      }

  -- there are k colours, and each is 1.0 or -1.0
  pub colours : (rng : SplitMix64) → Coloured k (coloring_of z a k n rng).x
  unfolding coloring_of
  colours rng = searched_coloured a k k (walked z a k n rng).x (times plus_zero a k n (walked z a k n rng).x) (walk_colours rng)
