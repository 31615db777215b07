-- A phase ends: each step that goes on freezes a coordinate, so the free ones become fewer, and more fuel changes nothing.
use Prim.Native.Nat.{ℕ, zero, suc, ◌+◌, ◌≤◌, ◌<◌}
use mathlib.Core.Path.{◌≡◌, refl, sym, ap, ◌∙◌}
use mathlib.Core.Bool.{Bool, true, false, not, ◌||◌}
use mathlib.Core.List.{List}
use native.Mathlib.Omega.{arith}
use borrow.Author.Tests.{ltb-true, lt-ltb, le-ltb}
use lib.Dec.{ltb, eqb}
use lib.ListN.{length, set, length-set}
use lib.Seq.{get_or-set_same, get_or-set_other}
use lib.Ieee.{Float}
use lib.Ieee.Scale.{finite}
use Rattle.seq.specs.Choice.{pick}
use Rattle.seq.specs.Keep.{count}
use Rattle.seq.specs.Until.{run}
use Rattle.seq.proofs.Choosing.{both}
use Rattle.seq.proofs.Keeping.{count_less}
use Rattle.seq.proofs.Marks.{set_inside}
use Rattle.seq.proofs.Loops.{stays, enough, turns}
use Rattle.chosen.specs.Rows.{times}
use Rattle.seq.specs.Marks.{is_set}
use Rattle.direction.specs.Direction.{drawn, directed, too_short, uphill, turned}
use Rattle.direction.specs.Step.{reach_to}
use Rattle.blocking.specs.Freeze.{Walk, freezes, frozen_at, freeze_to}
use Rattle.walked.specs.Walk.{Stepped, drew, advanced, stepped_along, step_of, Course, further, ended, free_ones, left, course_from}

-- ---- a coordinate that freezes is one free one fewer

pub free_less : (free : List ℕ) (p : ℕ) → is_set free p ≡ true → free_ones free ≡ suc (free_ones (set free p 0))
free_less free p e =
    let l : p < length free = set_inside free p e in
    count_less (is_set free) (is_set (set free p 0)) p (length free) e (ap (λ (v : ℕ). eqb v 1) (get_or-set_same free p 0 0 l))
    (λ i h. sym (ap (λ (v : ℕ). eqb v 1) (get_or-set_other free p i 0 0 h))) l
    ∙ ap (λ (k : ℕ). suc (count (is_set (set free p 0)) k)) (sym (length-set free p 0))

module _ (z : Float) (a : ℕ → ℕ → Float) (l n : ℕ) where
  -- what freezes and what is free, together
  abbrev pub coordinates : Walk → ℕ
  coordinates w = w.frozen + free_ones w.free

  pub frozen_sum : (w : Walk) (p : ℕ) → freezes w p ≡ true → coordinates (frozen_at z a l n w p) ≡ coordinates w
  unfolding frozen_at
  frozen_sum w p e = omega (arith, free_less w.free p (both (is_set w.free p) _ e).0)

  pub freeze_sum : (w : Walk) (k : ℕ) → coordinates (freeze_to z a l n w k) ≡ coordinates w
  unfolding freeze_to
  freeze_sum w zero = refl
  freeze_sum w (suc k) = go (freezes (freeze_to z a l n w k) k) refl (freeze_sum w k)
    where
      go : (t : Bool) → freezes (freeze_to z a l n w k) k ≡ t → coordinates (freeze_to z a l n w k) ≡ coordinates w
          → coordinates (pick t (frozen_at z a l n (freeze_to z a l n w k) k) (freeze_to z a l n w k)) ≡ coordinates w
      go true e h = frozen_sum (freeze_to z a l n w k) k e ∙ h
      go false e h = h

  -- what is frozen stays so
  freeze_grows : (w : Walk) (k : ℕ) → w.frozen ≤ (freeze_to z a l n w k).frozen
  unfolding freeze_to frozen_at
  freeze_grows w zero = omega arith
  freeze_grows w (suc k) = go (freezes (freeze_to z a l n w k) k) (freeze_grows w k)
    where
      go : (t : Bool) → w.frozen ≤ (freeze_to z a l n w k).frozen
          → w.frozen ≤ (pick t (frozen_at z a l n (freeze_to z a l n w k) k) (freeze_to z a l n w k)).frozen
      go true h = omega arith
      go false h = h

  -- a step keeps them together and lets none go, and where it goes on more are frozen
  pub record Sound (w : Walk) (s : Stepped) : Type 0 where
    pub together : coordinates s.walk ≡ coordinates w
    pub still_frozen : w.frozen ≤ s.walk.frozen
    pub more_frozen : s.more ≡ true → w.frozen < s.walk.frozen

  none_sound : (w : Walk) → Sound w (record { more = false; walk = drew l w })
  none_sound w = record {
    together = refl;
    still_frozen = omega arith;
    more_frozen = λ e. absurd (let q : ◌≡◌ {A = ℕ} 0 1 = ap (λ (b : Bool). pick b 1 0) e in omega arith);
  }

  pick-sound : (t : Bool) (w : Walk) (s o : Stepped) → Sound w s → Sound w o → Sound w (pick t s o)
  pick-sound true w s o p q = p
  pick-sound false w s o p q = q

  along-sound : (w : Walk) (g : List Float) → Sound w (stepped_along z a l n w g)
  unfolding stepped_along
  along-sound w g =
      let ag : List Float = times z a l n g in
      let up : Bool = uphill z w.ax ag in
      let t : Float = reach_to w.x (turned up g) w.free l in
      let v : Walk = freeze_to z a l n (advanced l w t (turned up g) (turned up ag)) l in
      pick-sound (finite t) w (record { more = ltb w.frozen v.frozen; walk = v }) (record { more = false; walk = drew l w })
      (record {
        together = freeze_sum (advanced l w t (turned up g) (turned up ag)) l;
        still_frozen = freeze_grows (advanced l w t (turned up g) (turned up ag)) l;
        more_frozen = ltb-true w.frozen v.frozen;
      })
      (none_sound w)

  pub step_sound : (w : Walk) → Sound w (step_of z a l n w)
  unfolding step_of
  step_sound w =
      pick-sound (too_short z (drawn w.rng l) (directed z w.basis w.free (drawn w.rng l))) w (record { more = false; walk = drew l w })
      (stepped_along z a l n w (directed z w.basis w.free (drawn w.rng l)))
      (none_sound w) (along-sound w _)

  -- ---- what is left falls with each step

  abbrev pub next : Course → Course
  next c = further z a l n c

  -- a phase that has not ended goes on
  pub or_false : (s t : Bool) → (not s || t) ≡ false → s ≡ true
  or_false true t e = refl
  or_false false t e = sym e

  pub falls : (c : Course) → ended l c ≡ false → left (next c) < left c
  falls c e = rw (or_false c.more (not (ltb (length c.walk.basis) l)) e) (go (next c).more refl (step_sound c.walk))
    where
      go : (t : Bool) → (next c).more ≡ t → Sound c.walk (step_of z a l n c.walk)
          → pick t (suc (free_ones (next c).walk.free)) 0 < suc (free_ones c.walk.free)
      go true h p = omega (arith, p.together, p.more_frozen h)
      go false h p = omega arith

  -- more fuel changes nothing
  pub fuel : (k : ℕ) (c : Course) → left c ≤ k → run (ended l) next k c ≡ run (ended l) next (left c) c
  fuel k c h = enough (ended l) next left falls k (left c) c h (omega arith)

  -- the last step of a phase says that it ends
  pub ends : (k : ℕ) (c : Course) → left c ≤ k → ended l (run (ended l) next k c) ≡ true
  unfolding run
  ends zero c h = go (ended l c) refl
    where
      go : (t : Bool) → ended l c ≡ t → ended l c ≡ true
      go true e = e
      go false e = absurd (omega (arith, falls c e))
  ends (suc k) c h = go (ended l c) refl (ends k (next c))
    where
      go : (t : Bool) → ended l c ≡ t → (left (next c) ≤ k → ended l (run (ended l) next k (next c)) ≡ true) → ended l
          (pick t c (run (ended l) next k (next c))) ≡ true
      go true e r = e
      go false e r = r (omega (arith, falls c e))

  -- ---- the ways of the loop over the steps

  -- a phase that goes on from w, with d directions drawn
  abbrev pub going : ℕ → Walk → Course
  going d w = record { more = true; walk = w; directions = d }

  goes_on : (d : ℕ) (w : Walk) → length w.basis < l → ended l (going d w) ≡ false
  goes_on d w h = rw (lt-ltb (length w.basis) l h)

  pub phase_full : (d : ℕ) (w : Walk) → l ≤ length w.basis → course_from z a l n (going d w) ≡ going d w
  unfolding course_from
  phase_full d w h = stays (ended l) next left falls (left (going d w)) (going d w) (rw (le-ltb (length w.basis) l h))

  course_path : (c : Course) (t : Bool) → c.more ≡ t → c ≡ record { more = t; walk = c.walk; directions = c.directions }
  course_path c t e = λ i. record { more = e i; walk = c.walk; directions = c.directions }

  pub phase_on_lem : (d : ℕ) (w : Walk) → length w.basis < l → (step_of z a l n w).more ≡ true
      → course_from z a l n (going d w) ≡ course_from z a l n (going (suc d) (step_of z a l n w).walk)
  unfolding course_from
  phase_on_lem d w h e =
      turns (ended l) next left falls (going d w) (goes_on d w h)
      ∙ ap (λ (c : Course). run (ended l) next (left c) c) (course_path (next (going d w)) true e)

  pub phase_last : (d : ℕ) (w : Walk) → length w.basis < l → (step_of z a l n w).more ≡ false
      → course_from z a l n (going d w) ≡ next (going d w)
  unfolding course_from
  phase_last d w h e =
      turns (ended l) next left falls (going d w) (goes_on d w h)
      ∙ stays (ended l) next left falls (left (next (going d w))) (next (going d w)) (rw e)
