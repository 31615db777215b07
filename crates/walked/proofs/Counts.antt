-- How many directions a phase draws, and how far they move the generator: each that goes on freezes a coordinate, and each is drawn for all places.
use Prim.Native.Nat.{ℕ, zero, suc, ◌+◌, ◌*◌, ◌≤◌}
use mathlib.Core.Path.{◌≡◌, refl, ap, ◌∙◌}
use mathlib.Core.Bool.{Bool, true, false, not}
use mathlib.Core.List.{List}
use native.Mathlib.Omega.{arith}
use lib.Dec.{ltb}
use lib.ListN.{length}
use lib.Ieee.{Float}
use lib.Ieee.Scale.{finite}
use Rattle.seq.specs.Choice.{pick}
use Rattle.seq.specs.Until.{run}
use Rattle.draw.specs.Gaussian.{after_gaussian}
use Rattle.chosen.specs.Rows.{times}
use Rattle.direction.specs.Direction.{after_draws, drawn, directed, too_short, uphill, turned}
use Rattle.direction.specs.Step.{reach_to}
use Rattle.blocking.specs.Freeze.{Walk, freezes, frozen_at, freeze_to}
use Rattle.walked.specs.Walk.{Stepped, drew, advanced, stepped_along, step_of, Course, further, ended, left, course_from, course_of}
use Rattle.walked.proofs.Ending.{step_sound, or_false}
use Rattle.draw.specs.declared.SplitMix64.{SplitMix64}

-- what each turn of a loop keeps holds where it ends
pub run-keeps : {S : Type 0} (P : S → Type 0) (done : S → Bool) (next : S → S) → ((s : S) → done s ≡ false → P s → P (next s))
    → (fuel : ℕ) (s : S) → P s → P (run done next fuel s)
unfolding run
run-keeps P done next h zero s p = p
run-keeps P done next h (suc fuel) s p = go (done s) refl (run-keeps P done next h fuel (next s))
  where
    go : (t : Bool) → done s ≡ t → (P (next s) → P (run done next fuel (next s))) → P (pick t s (run done next fuel (next s)))
    go true e r = p
    go false e r = r (h s e p)

-- draws after draws
pub draws_more : (rng : SplitMix64) (j k : ℕ) → after_draws (after_draws rng j) k ≡ after_draws rng (k + j)
unfolding after_draws
draws_more rng j zero = ap (after_draws rng) (let q : j ≡ 0 + j = omega arith in q)
draws_more rng j (suc k) =
    ap after_gaussian (draws_more rng j k) ∙ ap (after_draws rng) (let q : suc (k + j) ≡ suc k + j = omega arith in q)

module _ (z : Float) (a : ℕ → ℕ → Float) (l n : ℕ) where
  -- ---- where the generator stands

  freeze_draws : (w : Walk) (k : ℕ) → (freeze_to z a l n w k).rng ≡ w.rng
  unfolding freeze_to frozen_at
  freeze_draws w zero = refl
  freeze_draws w (suc k) = go (freezes (freeze_to z a l n w k) k) (freeze_draws w k)
    where
      go : (t : Bool) → (freeze_to z a l n w k).rng ≡ w.rng
          → (pick t (frozen_at z a l n (freeze_to z a l n w k) k) (freeze_to z a l n w k)).rng ≡ w.rng
      go true h = h
      go false h = h

  pick_draws : (t : Bool) (s o : Stepped) (rng : SplitMix64) → s.walk.rng ≡ rng → o.walk.rng ≡ rng → (pick t s o).walk.rng ≡ rng
  pick_draws true s o rng p q = p
  pick_draws false s o rng p q = q

  along_draws : (w : Walk) (g : List Float) → (stepped_along z a l n w g).walk.rng ≡ after_draws w.rng l
  unfolding stepped_along
  along_draws w g =
      let ag : List Float = times z a l n g in
      let up : Bool = uphill z w.ax ag in
      let t : Float = reach_to w.x (turned up g) w.free l in
      let v : Walk = freeze_to z a l n (advanced l w t (turned up g) (turned up ag)) l in
      pick_draws (finite t) (record { more = ltb w.frozen v.frozen; walk = v }) (record { more = false; walk = drew l w })
      (after_draws w.rng l) (freeze_draws (advanced l w t (turned up g) (turned up ag)) l) refl

  -- a step moves it by l draws, however it ends
  step_draws : (w : Walk) → (step_of z a l n w).walk.rng ≡ after_draws w.rng l
  unfolding step_of
  step_draws w =
      pick_draws (too_short z (drawn w.rng l) (directed z w.basis w.free (drawn w.rng l))) (record { more = false; walk = drew l w })
      (stepped_along z a l n w (directed z w.basis w.free (drawn w.rng l))) (after_draws w.rng l) refl (along_draws w _)

  -- so each direction of a phase moves it by l draws
  pub course_draws : (w : Walk) → (course_of z a l n w).walk.rng ≡ after_draws w.rng ((course_of z a l n w).directions * l)
  unfolding course_from
  course_draws w = run-keeps (λ c. c.walk.rng ≡ after_draws w.rng (c.directions * l)) (ended l) (further z a l n) turn _ _ (start w)
    where
      start : (w : Walk) → w.rng ≡ after_draws w.rng (0 * l)
      start w = unfold after_draws in ap (after_draws w.rng) (let q : 0 ≡ 0 * l = omega arith in q)

      turn : (c : Course) → ended l c ≡ false → c.walk.rng ≡ after_draws w.rng (c.directions * l)
          → (further z a l n c).walk.rng ≡ after_draws w.rng (suc c.directions * l)
      turn c e h =
          step_draws c.walk ∙ ap (λ (rng : SplitMix64). after_draws rng l) h ∙ draws_more w.rng (c.directions * l) l
          ∙ ap (after_draws w.rng) (let q : l + c.directions * l ≡ suc c.directions * l = omega arith in q)

  -- ---- how many they are

  -- each direction froze a coordinate, but for the last
  pub record Few (c : Course) : Type 0 where
    pub each : c.more ≡ true → c.directions ≤ c.walk.frozen
    pub most : c.directions ≤ suc c.walk.frozen

  few_turn : (c : Course) → ended l c ≡ false → Few c → Few (further z a l n c)
  few_turn c e f =
      let goes : c.more ≡ true = or_false z a l n c.more (not (ltb (length c.walk.basis) l)) e in
      let s = step_sound z a l n c.walk in
      record { each = λ m. omega (arith, f.each goes, s.more_frozen m); most = omega (arith, f.each goes, s.still_frozen) }

  pub course_few : (w : Walk) → (course_of z a l n w).directions ≤ suc (course_of z a l n w).walk.frozen
  unfolding course_from
  course_few w = (run-keeps Few (ended l) (further z a l n) few_turn (left begins) begins (record { each = λ e. omega arith; most = omega arith })).most
    where
      begins : Course
      begins = record { more = true; walk = w; directions = 0 }
