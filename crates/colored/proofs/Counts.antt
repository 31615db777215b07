-- How many directions a colouring draws, and how far that moves the generator: a phase draws at most two for each coordinate that is free no more,
-- and for each direction as many Gaussians as it has columns.
use Prim.Native.Nat.{ℕ, zero, suc, ◌+◌, ◌*◌, ◌≤◌}
use mathlib.Core.Path.{◌≡◌, refl, ap, ◌∙◌}
use mathlib.Core.Bool.{Bool, true, false}
use native.Mathlib.Omega.{arith}
use native.Mathlib.Nat.{le_refl, mul-le-mul}
use borrow.Author.Tests.{eqb-true, eqb-false}
use lib.Dec.{eqb}
use lib.ListN.{length, get_or}
use lib.Ieee.{Float}
use Rattle.seq.specs.Choice.{pick}
use Rattle.seq.specs.Lists.{repeated}
use Rattle.seq.specs.Sums.{plus_zero}
use Rattle.seq.specs.Keep.{keep, count}
use Rattle.seq.specs.Marks.{is_set}
use Rattle.seq.proofs.Filling.{length-tab}
use Rattle.seq.proofs.Keeping.{length-keep, keep_short}
use Rattle.direction.specs.Direction.{after_draws}
use Rattle.chosen.specs.Rows.{times}
use Rattle.begin.specs.Begin.{begun}
use Rattle.walked.specs.Walk.{free_ones}
use Rattle.walked.proofs.Counts.{run-keeps, draws_more, course_draws, course_few}
use Rattle.places.specs.Places.{chosen, put_back}
use Rattle.phased.specs.Phase.{Between, rounded_off, phased}
use Rattle.flipping.proofs.Flips.{sweeps_most}
use Rattle.colored.specs.Coloring.{settled, walked, coloring_of}
use Rattle.colored.specs.Draws.{after_outputs, Moved}
use Rattle.colored.proofs.Marked.{ones, phase_total, phase_keeps}
use Rattle.colored.proofs.Phases.{put, marks_left, cleared, inside_course, inside_phase}
use Rattle.colored.proofs.Colours.{Standing, phased-sound, start-stands}
use Rattle.places.proofs.Places.{length-put_back}
use Rattle.draw.specs.declared.SplitMix64.{SplitMix64}
use Rattle.draw.specs.Gaussian.{after_gaussian}

-- a Gaussian takes two outputs
outputs_twice : (rng : SplitMix64) (k : ℕ) → after_draws rng k ≡ after_outputs rng (2 * k)
unfolding after_draws after_outputs after_gaussian
outputs_twice rng zero = refl
outputs_twice rng (suc k) =
    rw (outputs_twice rng k) (ap (after_outputs rng) (let q : suc (suc (2 * k)) ≡ 2 * suc k = omega arith in q))

module _ (z : Float) (a : ℕ → ℕ → Float) (k n : ℕ) where
  -- ---- one phase

  -- what a phase leaves, once its coordinates are back
  abbrev after : Between → Between
  after b = record {
    x = put_back plus_zero (keep (is_set b.free) k) (inside_phase z a k n b).x b.x (length (keep (is_set b.free) k));
    free = put b.free (inside_phase z a k n b).free k;
    ax = (inside_phase z a k n b).ax;
    rng = (inside_phase z a k n b).rng;
    directions = b.directions + (inside_course z a k n b).directions;
  }

  -- what is free after it and what froze in it were free before
  left_free : (b : Between) → length b.free ≡ k → free_ones (after b).free + (inside_phase z a k n b).frozen ≡ free_ones b.free
  left_free b e =
      let l : ℕ = length (keep (is_set b.free) k) in
      let w = inside_phase z a k n b in
      let kept = phase_keeps z (λ p. a (get_or (keep (is_set b.free) k) p 0)) l n (chosen b.x (keep (is_set b.free) k)) b.ax b.rng
      (length-tab _ l) in
      let total : w.frozen + free_ones w.free ≡ l =
      phase_total z (λ p. a (get_or (keep (is_set b.free) k) p 0)) l n (chosen b.x (keep (is_set b.free) k)) b.ax b.rng in
      let many : l ≡ count (is_set b.free) k = length-keep (is_set b.free) k in
      let long : length (after b).free ≡ k = length-put_back 0 (keep (is_set b.free) k) w.free b.free l ∙ e in
      let back : count (is_set (after b).free) k ≡ count (is_set w.free) (count (is_set b.free) k) = marks_left b.free w.free k in
      let one : free_ones (after b).free ≡ count (is_set (after b).free) k = ap (count (is_set (after b).free)) long in
      let two : free_ones b.free ≡ count (is_set b.free) k = ap (count (is_set b.free)) e in
      let three : free_ones w.free ≡ count (is_set w.free) (count (is_set b.free) k) = ap (count (is_set w.free)) (kept.marks ∙ many) in
      omega (arith, total, many, back, one, two, three)

  -- at most two directions for each coordinate that is free no more
  pub phased_few : (b : Between) → length b.free ≡ k → settled b ≡ false
      → (phased z a k n b).directions + 2 * free_ones (phased z a k n b).free ≤ b.directions + 2 * free_ones b.free
  unfolding phased
  phased_few b e s = go (eqb (inside_phase z a k n b).frozen 0) refl (course_few z _ (length (keep (is_set b.free) k)) n _)
    where
      go : (t : Bool) → eqb (inside_phase z a k n b).frozen 0 ≡ t
          → (inside_course z a k n b).directions ≤ suc (inside_phase z a k n b).frozen
          → (pick t (rounded_off (after b)) (after b)).directions + 2 * free_ones (pick t (rounded_off (after b)) (after b)).free
          ≤ b.directions + 2 * free_ones b.free
      go true f few =
          omega (arith, few, eqb-true (inside_phase z a k n b).frozen 0 f, cleared (length (after b).free), eqb-false (free_ones b.free) 0 s)
      go false f few = omega (arith, few, eqb-false (inside_phase z a k n b).frozen 0 f, left_free b e)

  phased_directions : (b : Between) → (phased z a k n b).directions ≡ b.directions + (inside_course z a k n b).directions
  unfolding phased
  phased_directions b = go (eqb (inside_phase z a k n b).frozen 0)
    where
      go : (t : Bool) → (pick t (rounded_off (after b)) (after b)).directions ≡ b.directions + (inside_course z a k n b).directions
      go true = refl
      go false = refl

  -- each direction of a phase moves the generator by a Gaussian for each of its columns
  phased_draws : (b : Between)
      → (phased z a k n b).rng ≡ after_draws b.rng ((inside_course z a k n b).directions * length (keep (is_set b.free) k))
  unfolding phased begun
  phased_draws b = go (eqb (inside_phase z a k n b).frozen 0) (course_draws z _ (length (keep (is_set b.free) k)) n _)
    where
      go : (t : Bool) → (inside_phase z a k n b).rng ≡ after_draws b.rng ((inside_course z a k n b).directions * length (keep (is_set b.free) k))
          → (pick t (rounded_off (after b)) (after b)).rng ≡ after_draws b.rng ((inside_course z a k n b).directions * length (keep (is_set b.free) k))
      go true h = h
      go false h = h

  -- ---- the whole walk

  -- what holds between two phases
  record Counting (rng : SplitMix64) (b : Between) : Type 0 where
    standing : Standing k b
    few : b.directions + 2 * free_ones b.free ≤ 2 * k
    gaussians : ℕ
    most : gaussians ≤ k * b.directions
    stands : b.rng ≡ after_draws rng gaussians

  counting_turn : (rng : SplitMix64) (b : Between) → settled b ≡ false → Counting rng b → Counting rng (phased z a k n b)
  counting_turn rng b s c =
      let l : ℕ = length (keep (is_set b.free) k) in
      let d : ℕ = (inside_course z a k n b).directions in
      record {
        standing = phased-sound z a k n b c.standing;
        few = omega (arith, c.few, phased_few b c.standing.marks s);
        gaussians = d * l + c.gaussians;
        most = rw (phased_directions b) (omega (arith, c.most, mul-le-mul (le_refl d) (keep_short (is_set b.free) k)));
        stands = phased_draws b ∙ ap (λ (r : SplitMix64). after_draws r (d * l)) c.stands ∙ draws_more rng c.gaussians (d * l);
      }

  counted : (rng : SplitMix64) → Counting rng (walked z a k n rng)
  unfolding walked after_draws
  counted rng = run-keeps (Counting rng) settled (phased z a k n) (counting_turn rng) _ _
      (record { standing = start-stands k (repeated plus_zero n) rng; few = omega (arith, ones k); gaussians = 0; most = omega arith; stands = refl })

  -- ---- the colouring of k columns

  -- at most 2 k directions
  pub directions_most : (rng : SplitMix64) → (coloring_of z a k n rng).directions ≤ 2 * k
  unfolding coloring_of
  directions_most rng = omega (arith, (counted rng).few)

  -- where the generator stands
  pub moved : (rng : SplitMix64) → Moved k (coloring_of z a k n rng).directions rng (coloring_of z a k n rng).rng
  unfolding coloring_of
  moved rng =
      let c : Counting rng (walked z a k n rng) = counted rng in
      record {
        gaussians = c.gaussians;
        most = c.most;
        stands = c.stands;
        outputs = c.stands ∙ outputs_twice rng c.gaussians;
      }

  -- so at most 2 k² Gaussians, and 4 k² outputs
  pub gaussians_most : (rng : SplitMix64) → (moved rng).gaussians ≤ 2 * (k * k)
  gaussians_most rng = omega (arith, (moved rng).most, mul-le-mul (le_refl k) (directions_most rng))

  pub outputs_most : (rng : SplitMix64) → 2 * (moved rng).gaussians ≤ 4 * (k * k)
  outputs_most rng = omega (arith, gaussians_most rng)

  -- at most 100 sweeps
  pub sweeps_few : (rng : SplitMix64) → (coloring_of z a k n rng).sweeps ≤ 100
  unfolding coloring_of
  sweeps_few rng = sweeps_most a k (walked z a k n rng).x (times plus_zero a k n (walked z a k n rng).x)
