-- Every step of a colouring is the original's, where the matrix of each phase is fair.
use mathlib.Core.Path.{◌≡◌, refl, sym, ap, ◌∙◌, subst}
use Prim.Native.Nat.{ℕ, zero, suc, ◌+◌, ◌≤◌, ◌<◌}
use native.Mathlib.Nat.{le_trans, le_of_eq}
use native.Mathlib.Decide.{dec_lt}
use native.Mathlib.Omega.{arith}
use mathlib.Core.Bool.{Bool, true, false}
use mathlib.Core.List.{List}
use lib.Dec.{T, eqb}
use lib.ListN.{length, get_or}
use lib.Ieee.{Float, nan, binary64, of_bits, add, sub, neg, lt}
use Rattle.seq.specs.Choice.{pick}
use Rattle.seq.specs.Lists.{repeated}
use Rattle.seq.specs.Sums.{plus_zero, at}
use Rattle.seq.specs.Keep.{count}
use Rattle.seq.specs.Until.{run}
use Rattle.seq.proofs.Filling.{length-tab, get_or-tab}
use Rattle.seq.proofs.Keeping.{keep_short, keep-good, length-keep}
use Rattle.ieee.specs.Magnitude.{abs_of}
use Rattle.ieee.proofs.Ops.{Finite}
use Rattle.ieee.proofs.Signs.{nought-finite}
use Rattle.seq.specs.Marks.{is_set}
use Rattle.blocking.specs.Freeze.{freeze_limit, Walk}
use Rattle.begin.specs.Begin.{begun}
use Rattle.walked.specs.Walk.{step_of, course_of, phase_of, free_ones}
use Rattle.places.specs.Places.{chosen, put_back}
use Rattle.places.proofs.Places.{off, get_d_any, back_at, back_other, length-put_back, count-before}
use Rattle.phased.specs.Phase.{Between, rounded_off, phased}
use Rattle.colored.specs.Coloring.{settled}
use Rattle.colored.proofs.Marked.{picked, ones}
use Rattle.seq.proofs.Marks.{unset_out}
use Rattle.progress.specs.Original.{Generator, step_on, phase_on, before, columns_at, entries_at, begins_at, walk_at}
use Rattle.progress.proofs.Standing.{Fair, Standing, begun-stands}
use Rattle.progress.proofs.Steps.{step_on_lem}
use Rattle.progress.proofs.Phases.{always_stands, phase_stands, phase_on_lem}

-- between two phases: at each free column of k, x is finite and below the limit
pub record Apart (k : ℕ) (b : Between) : Type 0 where
  pub wide : length b.x ≡ k
  pub marks : length b.free ≡ k
  pub ends : (j : ℕ) → j < k → is_set b.free j ≡ true → Finite binary64 (at b.x j)
  pub inside : (j : ℕ) → j < k → is_set b.free j ≡ true → T (lt (abs_of (at b.x j)) freeze_limit)

zero_inside : T (lt (abs_of plus_zero) freeze_limit)
unfolding lt sub add neg of_bits
zero_inside = tt

zero_ends : Finite binary64 plus_zero
unfolding of_bits
zero_ends = nought-finite binary64 false

-- the last turn of a loop
run-last : {S : Type 0} (done : S → Bool) (next : S → S) (i : ℕ) (s : S)
    → run done next (suc i) s ≡ pick (done (run done next i s)) (run done next i s) (next (run done next i s))
unfolding run
run-last done next zero s = refl
run-last {S} done next (suc i) s = go (done s) refl (run-last done next i (next s))
  where
    r : S
    r = run done next i (next s)

    go : (t : Bool) → done s ≡ t → run done next (suc i) (next s) ≡ pick (done r) r (next r)
        → pick t s (run done next (suc i) (next s)) ≡ pick (done (pick t s r)) (pick t s r) (next (pick t s r))
    go true e h = ap (λ (b : Bool). pick b s (next s)) (sym e)
    go false e h = h

module _ (a : ℕ → ℕ → Float) (k n : ℕ) where
  -- ---- a phase begins

  module _ (b : Between) (s : Apart k b) (fair : Fair (entries_at a k b) (length (columns_at k b)) n) where
    abbrev places : List ℕ
    places = columns_at k b

    abbrev l : ℕ
    l = length places

    abbrev good : List (List Float) → Type 0
    good = fair.Good

    chosen_at : (p : ℕ) → p < l → at (chosen b.x places) p ≡ at b.x (get_or places p 0)
    chosen_at p h = get_or-tab (λ q. at b.x (get_or places q 0)) l p nan h

    pub begins_standing : Standing l good (begins_at plus_zero a k n b)
    begins_standing =
        begun-stands (entries_at a k b) l n fair (chosen b.x places) b.ax b.rng (length-tab (λ q. at b.x (get_or places q 0)) l)
        (λ p h. let g = keep-good (is_set b.free) k p h in subst (Finite binary64) (sym (chosen_at p h)) (s.ends (get_or places p 0) g.1 g.0))
        (λ p h. let g = keep-good (is_set b.free) k p h in subst (λ (y : Float). T (lt (abs_of y) freeze_limit)) (sym (chosen_at p h))
        (s.inside (get_or places p 0) g.1 g.0))

    -- every step of the phase is the original's
    pub phase_steps : (j : ℕ)
        → step_of plus_zero (entries_at a k b) l n (walk_at plus_zero a k n b j) ≡ step_on plus_zero (entries_at a k b) l n (walk_at plus_zero a k n b j)
    phase_steps j =
        step_on_lem (entries_at a k b) l n fair (walk_at plus_zero a k n b j)
        (always_stands (entries_at a k b) l n fair (begins_at plus_zero a k n b) begins_standing j)

    -- ---- it ends

    abbrev w : Walk
    w = phase_of plus_zero (entries_at a k b) l n (begins_at plus_zero a k n b)

    w-stands : Standing l good w
    w-stands = phase_stands (entries_at a k b) l n fair (begins_at plus_zero a k n b) begins_standing

    abbrev after : Between
    after = record {
      x = put_back plus_zero places w.x b.x l;
      free = put_back 0 places w.free b.free l;
      ax = w.ax;
      rng = w.rng;
      directions = b.directions + (course_of plus_zero (entries_at a k b) l n (begins_at plus_zero a k n b)).directions;
    }

    -- a column that is free after it was free before, and has the coordinate of the phase's walk
    record Back (j : ℕ) : Type 0 where
      place : ℕ
      under : place < l
      set_there : is_set w.free place ≡ true
      x_is : at after.x j ≡ at w.x place

    was_free : (j : ℕ) → is_set after.free j ≡ true → is_set b.free j ≡ true
    was_free j f = go (is_set b.free j) refl
      where
        go : (t : Bool) → is_set b.free j ≡ t → is_set b.free j ≡ true
        go true e = e
        go false e = absurd (off (sym f ∙ ap (λ (m : ℕ). eqb m 1) (back_other 0 0 (is_set b.free) w.free b.free k j (λ _. e)) ∙ e))

    came_back : (j : ℕ) → j < k → is_set after.free j ≡ true → Back j
    came_back j h f =
        let matrix = was_free j f in
        let p = count (is_set b.free) j in
        let g : p < l = subst (λ (m : ℕ). p < m) (sym (length-keep (is_set b.free) k)) (count-before (is_set b.free) k j h matrix) in
        record {
          place = p;
          under = g;
          set_there =
              ap (λ (m : ℕ). eqb m 1) (sym (back_at 0 0 (is_set b.free) w.free b.free k j h (subst (λ (m : ℕ). j < m) (sym s.marks) h) matrix)) ∙ f;
          x_is = back_at plus_zero nan (is_set b.free) w.x b.x k j h (subst (λ (m : ℕ). j < m) (sym s.wide) h) matrix
              ∙ get_d_any w.x p plus_zero nan (subst (λ (m : ℕ). p < m) (sym w-stands.sound.wide) g);
        }

    after_apart : Apart k after
    after_apart = record {
      wide = length-put_back plus_zero places w.x b.x l ∙ s.wide;
      marks = length-put_back 0 places w.free b.free l ∙ s.marks;
      ends = λ j h f. let c = came_back j h f in subst (Finite binary64) (sym c.x_is) (w-stands.sound.ends c.place c.under c.set_there);
      inside = λ j h f.
          let c = came_back j h f in
          subst (λ (y : Float). T (lt (abs_of y) freeze_limit)) (sym c.x_is) (w-stands.inside c.place c.under c.set_there);
    }

    none_free : (m j : ℕ) → is_set (repeated 0 m) j ≡ true → ⊥
    none_free m j f = go (dec_lt j m)
      where
        go : Dec (j < m) → ⊥
        go (yes h) = off (sym f ∙ ap (λ (i : ℕ). eqb i 1) (get_or-tab {A = ℕ} (λ _. 0) m j 0 h))
        go (no h) = off (sym f ∙ unset_out (repeated 0 m) j (le_trans (le_of_eq (length-tab {A = ℕ} (λ _. 0) m)) (let g : m ≤ j = omega arith in g)))

    rounded_apart : Apart k (rounded_off after)
    rounded_apart = record {
      wide = length-tab _ (length after.x) ∙ after_apart.wide;
      marks = length-tab {A = ℕ} (λ _. 0) (length after.free) ∙ after_apart.marks;
      ends = λ j h f. absurd (none_free (length after.free) j f);
      inside = λ j h f. absurd (none_free (length after.free) j f);
    }

    pub phased_apart : Apart k (phased plus_zero a k n b)
    unfolding phased
    phased_apart = picked (Apart k) (eqb w.frozen 0) (rounded_off after) after rounded_apart after_apart

  -- ---- the whole walk

  fresh : (rng : Generator) → Apart k (record { x = repeated plus_zero k; free = repeated 1 k; ax = repeated plus_zero n; rng = rng; directions = 0 })
  fresh rng =
      let x_is : (j : ℕ) → j < k → at (repeated plus_zero k) j ≡ plus_zero = λ j h. get_or-tab (λ (i : ℕ). plus_zero) k j nan h in
      record {
        wide = length-tab (λ (i : ℕ). plus_zero) k;
        marks = length-tab {A = ℕ} (λ _. 1) k;
        ends = λ j h f. subst (Finite binary64) (sym (x_is j h)) zero_ends;
        inside = λ j h f. subst (λ (y : Float). T (lt (abs_of y) freeze_limit)) (sym (x_is j h)) zero_inside;
      }

  module _ (rng : Generator) (fair : (i : ℕ) → let b = before plus_zero a k n rng i in Fair (entries_at a k b) (length (columns_at k b)) n) where
    abbrev at_phase : ℕ → Between
    at_phase i = before plus_zero a k n rng i

    pub always_apart : (i : ℕ) → Apart k (at_phase i)
    always_apart i = go i
      where
        next : (i : ℕ) → Apart k (at_phase i) → Apart k (at_phase (suc i))
        next i s =
            subst (Apart k) (sym (run-last settled (phased plus_zero a k n) i _))
            (picked (Apart k) (settled (at_phase i)) (at_phase i) (phased plus_zero a k n (at_phase i)) s (phased_apart (at_phase i) s (fair i)))

        go : (i : ℕ) → Apart k (at_phase i)
        go zero = unfold run in fresh rng
        go (suc i) = next i (go i)

    -- every step of every phase is the original's: none ends its phase by freezing nothing
    pub every_step : (i j : ℕ) → let b = at_phase i in let l = length (columns_at k b) in
        step_of plus_zero (entries_at a k b) l n (walk_at plus_zero a k n b j) ≡ step_on plus_zero (entries_at a k b) l n (walk_at plus_zero a k n b j)
    every_step i j = phase_steps (at_phase i) (always_apart i) (fair i) j

    room : (b : Between) (fuel : ℕ) → k < fuel → suc (free_ones (begins_at plus_zero a k n b).free) ≤ fuel
    unfolding begun
    room b fuel h = let e = ones (length (columns_at k b)) in let g = keep_short (is_set b.free) k in omega arith

    -- and every phase is, with any fuel above k
    pub every_phase : (i fuel : ℕ) → k < fuel → let b = at_phase i in let l = length (columns_at k b) in
        phase_of plus_zero (entries_at a k b) l n (begins_at plus_zero a k n b) ≡ phase_on plus_zero (entries_at a k b) l n fuel (begins_at plus_zero a k n b)
    every_phase i fuel h =
        let b = at_phase i in
        sym (phase_on_lem (entries_at a k b) (length (columns_at k b)) n (fair i) (begins_at plus_zero a k n b)
        (begins_standing b (always_apart i) (fair i)) fuel (room b fuel h))
