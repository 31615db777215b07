-- What a phase keeps: what froze and what is free are all of its l columns, and each coordinate is marked free or has its colour, 1.0 or -1.0.
-- One that freezes is snapped to its sign and is no NaN.
use Prim.Native.Nat.{ℕ, zero, suc, ◌+◌, ◌<◌}
use mathlib.Core.Path.{◌≡◌, refl, sym, ap, ◌∙◌}
use mathlib.Core.Logic.{◌≢◌, ◌⊎◌, inl, inr}
use mathlib.Core.Bool.{Bool, true, false}
use mathlib.Core.List.{List}
use native.Mathlib.Omega.{arith}
use borrow.Author.Tests.{eqb-true, eqb-false}
use lib.Dec.{eqb, ltb}
use lib.IntN.{pos}
use lib.ListN.{length, set, length-set}
use lib.Seq.{get_or-set_same, get_or-set_other}
use lib.Ieee.{Float, nan, inf, fin, neg, le, of_bits}
use Rattle.seq.specs.Choice.{pick}
use Rattle.seq.specs.Lists.{repeated}
use Rattle.seq.specs.Sums.{at}
use Rattle.seq.proofs.Filling.{length-tab, get_or-tab}
use Rattle.ieee.specs.Magnitude.{abs_of, signum_of}
use lib.Ieee.Scale.{finite}
use Rattle.chosen.specs.Rows.{times}
use Rattle.seq.specs.Marks.{is_set}
use Rattle.seq.proofs.Choosing.{both}
use Rattle.direction.specs.Direction.{drawn, directed, too_short, uphill, turned}
use Rattle.ieee.specs.Constants.{one, minus_one}
use Rattle.blocking.specs.Freeze.{freeze_limit, Walk, freezes, frozen_at, freeze_to}
use Rattle.direction.specs.Step.{reach_to, moved, moved_at}
use Rattle.walked.proofs.Ending.{step_sound}
use Rattle.walked.proofs.Counts.{run-keeps}
use Rattle.places.proofs.Places.{off, count_all}
use Rattle.begin.specs.Begin.{begun}
use Rattle.walked.specs.Walk.{Stepped, drew, advanced, free_ones, step_of, stepped_along, Course, further, ended, course_from, phase_of}
use Rattle.draw.specs.declared.SplitMix64.{SplitMix64}

-- ---- one colour

-- 1.0 or -1.0
abbrev pub Colour : Float → Type 0
Colour x = (x ≡ one) ⊎ (x ≡ minus_one)

one_is : one ≡ fin false 1 (pos 0)
unfolding of_bits
one_is = refl

minus_one_is : minus_one ≡ fin true 1 (pos 0)
unfolding of_bits
minus_one_is = refl

neg-one : neg one ≡ minus_one
unfolding neg of_bits
neg-one = refl

neg-minus-one : neg minus_one ≡ one
unfolding neg of_bits
neg-minus-one = refl

-- a colour negated is a colour
pub negated : {x : Float} → Colour x → Colour (neg x)
negated (inl e) = inr (ap neg e ∙ neg-one)
negated (inr e) = inl (ap neg e ∙ neg-minus-one)

signed : (s : Bool) → Colour (fin s 1 (pos 0))
signed false = inl (sym one_is)
signed true = inr (sym minus_one_is)

no_order : (x : Float) → le x nan ≡ false
unfolding le
no_order nan = refl
no_order (inf s) = refl
no_order (fin s m e) = refl

-- a value that has a place above another is no NaN, so its sign is a colour
snapped : (x : Float) → le freeze_limit (abs_of x) ≡ true → Colour (signum_of x)
snapped nan h = absurd (off (sym h ∙ no_order freeze_limit))
snapped (inf s) h = signed s
snapped (fin s m e) h = signed s

pub rounded : (t : Bool) → Colour (pick t one minus_one)
rounded true = inl refl
rounded false = inr refl

-- what holds of both holds of the one that is picked
pub picked : {S : Type 0} (P : S → Type 0) (t : Bool) (x y : S) → P x → P y → P (pick t x y)
picked P true x y p q = p
picked P false x y p q = q

-- ---- a walk in its phase

-- each coordinate of l is free, or has its colour
pub record Sound (l : ℕ) (x : List Float) (free : List ℕ) : Type 0 where
  pub long : length x ≡ l
  pub coloured : (p : ℕ) → p < l → is_set free p ≡ false → Colour (at x p)

set-sound : (l q : ℕ) (x : List Float) (free : List ℕ) (y : Float) → Colour y → Sound l x free → Sound l (set x q y) (set free q 0)
set-sound l q x free y c s = record { long = length-set x q y ∙ s.long; coloured = each }
  where
    each : (p : ℕ) → p < l → is_set (set free q 0) p ≡ false → Colour (at (set x q y) p)
    each p h e = go (eqb p q) refl
      where
        go : (t : Bool) → eqb p q ≡ t → Colour (at (set x q y) p)
        go true g =
            let i : p ≡ q = eqb-true p q g in
            rw (i, get_or-set_same x q y nan (rw (s.long, ← i) h)) c
        go false g =
            let i : p ≢ q = eqb-false p q g in
            rw (get_or-set_other x q p y nan i) (s.coloured p h (rw (get_or-set_other free q p 0 0 i) at e))

-- every one of l marks is set
pub all_free : (l p : ℕ) → p < l → is_set (repeated 1 l) p ≡ true
all_free l p h = ap (λ (m : ℕ). eqb m 1) (get_or-tab {A = ℕ} (λ _. 1) l p 0 h)

-- so l are set
pub ones : (l : ℕ) → free_ones (repeated 1 l) ≡ l
ones l = rw (length-tab {A = ℕ} (λ _. 1) l) (count_all (is_set (repeated 1 l)) l (λ j h. all_free l j h))

-- what a phase keeps of its walk on l columns
pub record Kept (l : ℕ) (w : Walk) : Type 0 where
  pub sound : Sound l w.x w.free
  pub marks : length w.free ≡ l

module _ (z : Float) (a : ℕ → ℕ → Float) (l n : ℕ) where
  frozen_kept : (w : Walk) (p : ℕ) → freezes w p ≡ true → Kept l w → Kept l (frozen_at z a l n w p)
  unfolding frozen_at
  frozen_kept w p e s =
      record {
        sound = set-sound l p w.x w.free (signum_of (at w.x p))
            (snapped (at w.x p) (both (is_set w.free p) (le freeze_limit (abs_of (at w.x p))) e).1) s.sound;
        marks = length-set w.free p 0 ∙ s.marks;
      }

  freeze_kept : (w : Walk) (k : ℕ) → Kept l w → Kept l (freeze_to z a l n w k)
  unfolding freeze_to
  freeze_kept w zero s = s
  freeze_kept w (suc k) s = go (freezes (freeze_to z a l n w k) k) refl (freeze_kept w k s)
    where
      go : (t : Bool) → freezes (freeze_to z a l n w k) k ≡ t → Kept l (freeze_to z a l n w k)
          → Kept l (pick t (frozen_at z a l n (freeze_to z a l n w k) k) (freeze_to z a l n w k))
      go true e r = frozen_kept (freeze_to z a l n w k) k e r
      go false e r = r

moved-sound : (l : ℕ) (t : Float) (x g : List Float) (free : List ℕ) → Sound l x free → Sound l (moved t x g free) free
unfolding moved
moved-sound l t x g free s =
    record {
      long = length-tab (moved_at t x g free) (length x) ∙ s.long;
      coloured = λ p h e. rw (get_or-tab (moved_at t x g free) (length x) p nan (rw s.long h), e) (s.coloured p h e);
    }

module _ (z : Float) (a : ℕ → ℕ → Float) (l n : ℕ) where
  abbrev walk_kept : Stepped → Type 0
  walk_kept s = Kept l s.walk

  abbrev start : Walk → Course
  start w = record { more = true; walk = w; directions = 0 }

  along-kept : (w : Walk) (g : List Float) → Kept l w → Kept l (stepped_along z a l n w g).walk
  unfolding stepped_along
  along-kept w g s =
      let ag : List Float = times z a l n g in
      let up : Bool = uphill z w.ax ag in
      let t : Float = reach_to w.x (turned up g) w.free l in
      let v : Walk = advanced l w t (turned up g) (turned up ag) in
      picked walk_kept (finite t)
      (record { more = ltb w.frozen (freeze_to z a l n v l).frozen; walk = freeze_to z a l n v l }) (record { more = false; walk = drew l w })
      (freeze_kept z a l n v l (record { sound = moved-sound l t w.x (turned up g) w.free s.sound; marks = s.marks }))
      (record { sound = s.sound; marks = s.marks })

  step_kept : (w : Walk) → Kept l w → Kept l (step_of z a l n w).walk
  unfolding step_of
  step_kept w s =
      let d : List Float = drawn w.rng l in
      let g : List Float = directed z w.basis w.free d in
      picked walk_kept (too_short z d g) (record { more = false; walk = drew l w }) (stepped_along z a l n w g)
      (record { sound = s.sound; marks = s.marks }) (along-kept w g s)

  phase_kept : (w : Walk) → Kept l w → Kept l (phase_of z a l n w)
  unfolding course_from
  phase_kept w s = run-keeps (λ c. Kept l c.walk) (ended l) (further z a l n) (λ c _. step_kept c.walk) _ (start w) s

  -- where a phase begins, all is free
  begun_kept : (x ax : List Float) (rng : SplitMix64) → length x ≡ l → Kept l (begun z a l n x ax rng)
  unfolding begun
  begun_kept x ax rng e =
      record {
        sound = record { long = e; coloured = λ p h f. absurd (off (sym (all_free l p h) ∙ f)) };
        marks = length-tab {A = ℕ} (λ _. 1) l;
      }

  -- a whole phase
  pub phase_keeps : (x ax : List Float) (rng : SplitMix64) → length x ≡ l → Kept l (phase_of z a l n (begun z a l n x ax rng))
  phase_keeps x ax rng e = phase_kept (begun z a l n x ax rng) (begun_kept x ax rng e)

  -- what froze in it and what is free after it are all of its columns
  phase_sum : (w : Walk) → w.frozen + free_ones w.free ≡ l → (phase_of z a l n w).frozen + free_ones (phase_of z a l n w).free ≡ l
  unfolding course_from
  phase_sum w e =
      run-keeps (λ c. c.walk.frozen + free_ones c.walk.free ≡ l) (ended l) (further z a l n)
      (λ c _ t. (step_sound z a l n c.walk).together ∙ t) _ (start w) e

  pub phase_total : (x ax : List Float) (rng : SplitMix64)
      → (phase_of z a l n (begun z a l n x ax rng)).frozen + free_ones (phase_of z a l n (begun z a l n x ax rng)).free ≡ l
  unfolding begun
  phase_total x ax rng = phase_sum (begun z a l n x ax rng) (omega (arith, ones l))
