-- Each phase makes the number of free coordinates fall, so the walk ends: `settled` holds at its end, and more fuel changes nothing.
use Prim.Native.Nat.{ℕ, zero, suc, ◌+◌, ◌≤◌, ◌<◌}
use mathlib.Core.Path.{◌≡◌, refl, ap, ◌∙◌}
use mathlib.Core.Logic.{◌≢◌}
use mathlib.Core.Bool.{Bool, true, false}
use mathlib.Core.List.{List}
use native.Mathlib.Omega.{arith}
use native.Mathlib.Decide.{dec_le}
use borrow.Author.Tests.{eqb-false, eq-eqb}
use lib.Dec.{eqb}
use lib.ListN.{length, get_or}
use lib.Ieee.{Float}
use Rattle.seq.specs.Choice.{pick}
use Rattle.seq.specs.Lists.{repeated}
use Rattle.seq.specs.Sums.{plus_zero}
use Rattle.seq.specs.Keep.{keep, count}
use Rattle.seq.specs.Until.{run}
use Rattle.seq.proofs.Filling.{length-tab, get_or-tab}
use Rattle.seq.proofs.Keeping.{length-keep, keep_short}
use Rattle.seq.proofs.Loops.{enough}
use Rattle.seq.specs.Marks.{is_set}
use Rattle.seq.proofs.Marks.{unset_out, set_inside}
use Rattle.blocking.specs.Freeze.{Walk}
use Rattle.begin.specs.Begin.{begun}
use Rattle.walked.specs.Walk.{Course, course_of, free_ones}
use Rattle.places.specs.Places.{chosen, put_back}
use Rattle.phased.specs.Phase.{Between, rounded_off, phased}
use Rattle.colored.specs.Coloring.{settled, walked}
use Rattle.colored.proofs.Marked.{Kept, phase_keeps, phase_total}
use Rattle.places.proofs.Places.{back, back_at, back_other, length-put_back, count_none, count_through, count_fewer, count_out}
use Rattle.draw.specs.declared.SplitMix64.{SplitMix64}

-- ---- the marks that a phase leaves

module _ (free values : List ℕ) (k : ℕ) where
  -- the marks once those of the kept places are put back
  abbrev pub put : List ℕ
  put = back 0 (is_set free) values free k

  length-put : length put ≡ length free
  length-put = length-put_back 0 (keep (is_set free) k) values free (length (keep (is_set free) k))

  -- as many are set below k as among those
  pub marks_left : count (is_set put) k ≡ count (is_set values) (count (is_set free) k)
  marks_left =
      count_through (is_set free) (is_set put) (is_set values) k
      (λ j l s. ap (λ (m : ℕ). eqb m 1) (back_at 0 0 (is_set free) values free k j l (set_inside free j s) s))
      (λ j l s. ap (λ (m : ℕ). eqb m 1) (back_other 0 0 (is_set free) values free k j (λ _. s)) ∙ s)

  -- so where one of those is not set, fewer are set
  pub marks_fall : count (is_set values) (count (is_set free) k) < count (is_set free) k → free_ones put < free_ones free
  marks_fall h = rw length-put (go (dec_le k (length free)))
    where
      less : count (is_set put) k < count (is_set free) k
      less = rw marks_left h

      go : Dec (k ≤ length free) → count (is_set put) (length free) < count (is_set free) (length free)
      go (yes l) =
          count_fewer (is_set free) (is_set put) k (length free) l
          (λ j m. ap (λ (i : ℕ). eqb i 1) (back_other 0 0 (is_set free) values free k j (λ i. absurd (omega arith)))) less
      go (no l) =
          let p = count_out (is_set put) (length free) k (omega arith) (λ j m. unset_out put j (rw length-put m)) in
          let q = count_out (is_set free) (length free) k (omega arith) (λ j m. unset_out free j m) in
          rw (← p, ← q) less

-- no more marks are set than there are
marks_short : (free : List ℕ) → free_ones free ≤ length free
marks_short free = rw (← length-keep (is_set free) (length free)) (keep_short (is_set free) (length free))

-- no mark of a cleared list is set
pub cleared : (m : ℕ) → free_ones (repeated 0 m) ≡ 0
cleared m = count_none (is_set (repeated 0 m)) (length (repeated 0 m)) (λ j l. rw (get_or-tab {A = ℕ} (λ _. 0) m j 0 (rw (length-tab {A = ℕ} (λ _. 0) m) at l)))

-- ---- the walk ends

-- where some of l columns froze, fewer are free
froze_some : (l m : ℕ) (w : Walk) → l ≡ m → length w.free ≡ l → w.frozen + free_ones w.free ≡ l → w.frozen ≢ 0 → count (is_set w.free) m < m
froze_some l m w e h g f =
    let t : w.frozen + count (is_set w.free) l ≡ l = rw h at g in
    rw (← e) (omega arith)

module _ (z : Float) (a : ℕ → ℕ → Float) (k n : ℕ) where
  -- the phase on the free columns
  abbrev pub inside_course : Between → Course
  inside_course b =
      course_of z (λ p. a (get_or (keep (is_set b.free) k) p 0)) (length (keep (is_set b.free) k)) n
      (begun z (λ p. a (get_or (keep (is_set b.free) k) p 0)) (length (keep (is_set b.free) k)) n (chosen b.x (keep (is_set b.free) k)) b.ax b.rng)

  abbrev pub inside_phase : Between → Walk
  inside_phase b = (inside_course b).walk

  -- what it keeps
  counts : (b : Between) → Kept (length (keep (is_set b.free) k)) (inside_phase b)
  counts b = phase_keeps z _ _ n _ b.ax b.rng (length-tab _ (length (keep (is_set b.free) k)))

  -- it leaves fewer coordinates free, or rounds them all
  pub falls : (b : Between) → settled b ≡ false → free_ones (phased z a k n b).free < free_ones b.free
  unfolding phased
  falls b s = go (eqb (inside_phase b).frozen 0) refl
    where
      after : Between
      after = record {
        x = put_back plus_zero (keep (is_set b.free) k) (inside_phase b).x b.x (length (keep (is_set b.free) k));
        free = put b.free (inside_phase b).free k;
        ax = (inside_phase b).ax;
        rng = (inside_phase b).rng;
        directions = b.directions + (inside_course b).directions;
      }

      go : (t : Bool) → eqb (inside_phase b).frozen 0 ≡ t → free_ones (pick t (rounded_off after) after).free < free_ones b.free
      go true e = omega (arith, cleared (length after.free), eqb-false (free_ones b.free) 0 s)
      go false e =
          let f : (inside_phase b).frozen ≢ 0 = eqb-false (inside_phase b).frozen 0 e in
          marks_fall b.free (inside_phase b).free k (froze_some _ _ (inside_phase b) (length-keep (is_set b.free) k)
          (counts b).marks (phase_total z _ _ n _ b.ax b.rng) f)

  -- the walk from b, with fuel that is enough
  pub settles : (fuel : ℕ) (b : Between) → free_ones b.free ≤ fuel → settled (run settled (phased z a k n) fuel b) ≡ true
  unfolding run
  settles zero b h = eq-eqb (free_ones b.free) 0 (omega arith)
  settles (suc fuel) b h = go (settled b) refl (settles fuel (phased z a k n b))
    where
      go : (t : Bool) → settled b ≡ t → (free_ones (phased z a k n b).free ≤ fuel → settled (run settled (phased z a k n) fuel (phased z a k n b)) ≡ true)
          → settled (pick t b (run settled (phased z a k n) fuel (phased z a k n b))) ≡ true
      go true e r = e
      go false e r = r (omega (arith, falls b e))

  -- no coordinate is free at the walk's end
  pub walk_settles : (rng : SplitMix64) → settled (walked z a k n rng) ≡ true
  unfolding walked
  walk_settles rng = settles _ _ (omega arith)

  -- more fuel changes nothing
  pub walk_enough : (fuel : ℕ) (rng : SplitMix64) → k ≤ fuel
      → run settled (phased z a k n) fuel
      (record { x = repeated plus_zero k; free = repeated 1 k; ax = repeated plus_zero n; rng = rng; directions = 0 }) ≡ walked
      z a k n rng
  unfolding walked
  walk_enough fuel rng h = enough settled (phased z a k n) (λ b. free_ones b.free) falls fuel _ _
      (omega (arith, marks_short (repeated 1 k), length-tab {A = ℕ} (λ _. 1) k)) (omega arith)
