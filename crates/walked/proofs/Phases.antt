-- Laws of the loop over the steps: what is left of the phase from here is the whole phase, until a step ends it or the basis is full.
use Prim.Native.Nat.{ℕ, zero, suc, ◌+◌, ◌≤◌, ◌<◌}
use mathlib.Core.Path.{◌≡◌, refl, sym, ap, ap₂, subst, ◌∙◌}
use mathlib.Core.Bool.{Bool, true, false}
use mathlib.Core.List.{List}
use native.Mathlib.Omega.{arith}
use native.Mathlib.Numerals.{add-one}
use lib.Dec.{ltb}
use lib.ListN.{length, get_or, drop}
use lib.Ieee.{Float}
use lib.Ieee.Scale.{finite}
use Rattle.seq.specs.Choice.{pick}
use Rattle.seq.specs.Lists.{repeated}
use Rattle.seq.specs.Sums.{plus_zero}
use Rattle.seq.proofs.Filling.{length-tab}
use Rattle.basis.proofs.Bases.{length_vectors, inserted-most}
use Rattle.chosen.specs.Rows.{times, row_of, first_rows}
use Rattle.seq.specs.Marks.{is_set}
use Rattle.direction.specs.Direction.{drawn, directed, too_short, uphill, turned}
use Rattle.direction.specs.Step.{reach_to}
use Rattle.blocking.specs.Freeze.{Walk, freeze_to}
use Rattle.begin.specs.Begin.{block_to, begun}
use Rattle.walked.specs.Walk.{Stepped, drew, advanced, stepped_along, step_of, Course, free_ones, course_from, course_of}
use Rattle.blocking.specs.Held.{ax_in, basis_in, held, Roomy}
use Rattle.begin.specs.Beginning.{Begun}
use Rattle.walked.specs.Walking.{StepHolds, CourseHolds}
use Rattle.walked.specs.declared.Stand.{Stand}
use Rattle.walked.specs.declared.Phased.{Phased}
use Rattle.blocking.proofs.Scratch.{walk_path}
use Rattle.blocking.proofs.Freezing.{freeze_most, count_most}
use Rattle.walked.proofs.Ending.{coordinates, step_sound, next, going, phase_full, phase_on_lem, phase_last}
use Rattle.seq.proofs.Keeping.{count_short}
use Rattle.draw.specs.declared.SplitMix64.{SplitMix64}

-- a step keeps the basis within l
module _ (z : Float) (a : ℕ → ℕ → Float) (l n : ℕ) (w : Walk) (fits : length w.basis ≤ l) where
  pick-fits : (t : Bool) (s o : Stepped) → length s.walk.basis ≤ l → length o.walk.basis ≤ l → length (pick t s o).walk.basis ≤ l
  pick-fits true s o p q = p
  pick-fits false s o p q = q

  along-most : (g : List Float) → length (stepped_along z a l n w g).walk.basis ≤ l
  unfolding stepped_along
  along-most g =
      let ag : List Float = times z a l n g in
      let up : Bool = uphill z w.ax ag in
      let t : Float = reach_to w.x (turned up g) w.free l in
      let v : Walk = freeze_to z a l n (advanced l w t (turned up g) (turned up ag)) l in
      pick-fits (finite t) (record { more = ltb w.frozen v.frozen; walk = v }) (record { more = false; walk = drew l w })
      (freeze_most z a l n (advanced l w t (turned up g) (turned up ag)) l fits) fits

  pub step_most : length (step_of z a l n w).walk.basis ≤ l
  unfolding step_of
  step_most =
      pick-fits (too_short z (drawn w.rng l) (directed z w.basis w.free (drawn w.rng l))) (record { more = false; walk = drew l w })
      (stepped_along z a l n w (directed z w.basis w.free (drawn w.rng l))) fits (along-most _)

-- what holds between two steps
pub record Going (a : ℕ → ℕ → Float) (l : ℕ) (numbers₀ : List Float) (blocked₀ : List ℕ) (x₀ : List Float) (free₀ : List ℕ) (g₀ : List Float) (start : Walk)
    (numbers : List Float) (blocked : List ℕ) (x : List Float) (free : List ℕ) (g : List Float) (count frozen : ℕ)
    (rng : SplitMix64) (directions : ℕ) : Type 0 where
  pub roomy : Roomy l numbers blocked x free count
  pub nums : length numbers ≡ length numbers₀
  pub rows : length blocked ≡ length blocked₀
  pub xs : length x ≡ length x₀
  pub frees : length free ≡ length free₀
  pub gs : length g ≡ length g₀
  pub few : frozen + free_ones free ≤ l
  pub drawn_few : directions ≤ frozen
  pub same : course_from plus_zero a l (length blocked₀) (going plus_zero a l (length blocked₀) directions (held numbers blocked x free count frozen rng))
      ≡ course_of plus_zero a l (length blocked₀) start

module _ (a : ℕ → ℕ → Float) (l : ℕ) (numbers₀ : List Float) (blocked₀ : List ℕ) (x₀ : List Float) (free₀ : List ℕ) (g₀ : List Float) where
  pub going_start : (count frozen : ℕ) (rng : SplitMix64) → Roomy l numbers₀ blocked₀ x₀ free₀ count → frozen ≡ 0
      → Going a l numbers₀ blocked₀ x₀ free₀ g₀ (held numbers₀ blocked₀ x₀ free₀ count frozen rng) numbers₀ blocked₀ x₀ free₀ g₀ count frozen rng 0
  going_start count frozen rng r e =
      record {
        roomy = r;
        nums = refl;
        rows = refl;
        xs = refl;
        frees = refl;
        gs = refl;
        few = omega (arith, count_short (is_set free₀) (length free₀), r.marks);
        drawn_few = omega arith;
        same = refl;
      }

  module _ (start : Walk) (numbers : List Float) (blocked : List ℕ) (x : List Float) (free : List ℕ) (g : List Float) (count frozen : ℕ)
      (rng : SplitMix64) (directions : ℕ)
      (i : Going a l numbers₀ blocked₀ x₀ free₀ g₀ start numbers blocked x free g count frozen rng directions) where
    abbrev n : ℕ
    n = length blocked₀

    abbrev now-at : Walk
    now-at = held numbers blocked x free count frozen rng

    -- the number of vectors is the count
    counted : length now-at.basis ≡ count
    counted = length_vectors (length x) count (drop (length blocked + length blocked + length blocked) numbers)

    pub going-full : l ≤ count → (r : Phased) → r.at.count ≡ count → r.at.frozen ≡ frozen → r.at.rng ≡ rng → r.directions ≡ directions
        → CourseHolds numbers blocked x free r (course_of plus_zero a l n start)
    going-full h r ec ef er ed =
        let e : going plus_zero a l n directions now-at ≡ course_of plus_zero a l n start =
        sym (phase_full plus_zero a l n directions now-at (omega (arith, counted))) ∙ i.same in
        record {
          walk = rw (ec, ef, er) (ap (λ (c : Course). c.walk) e);
          directions = ed ∙ ap (λ (c : Course). c.directions) e;
        }

    module _ (numbers' : List Float) (blocked' : List ℕ) (x' : List Float) (free' : List ℕ) (s : Stand) (more : Bool) (short : count < l)
        (given : StepHolds numbers' blocked' x' free' s more (step_of plus_zero a l (length blocked) now-at)) where
      abbrev next-at : Walk
      next-at = held numbers' blocked' x' free' s.count s.frozen s.rng

      abbrev one : Stepped
      one = step_of plus_zero a l n now-at

      here : StepHolds numbers' blocked' x' free' s more one
      here = subst (λ (k : ℕ). StepHolds numbers' blocked' x' free' s more (step_of plus_zero a l k now-at)) i.rows given

      pub going-last : more ≡ false → CourseHolds numbers' blocked' x' free' (record { at = s; directions = directions + 1 })
          (course_of plus_zero a l n start)
      going-last e =
          let last : next plus_zero a l n (going plus_zero a l n directions now-at) ≡ course_of plus_zero a l n start =
          sym (phase_last plus_zero a l n directions now-at (omega (arith, counted)) (sym here.more ∙ e)) ∙ i.same in
          record {
            walk = here.walk ∙ ap (λ (c : Course). c.walk) last;
            directions = add-one directions ∙ ap (λ (c : Course). c.directions) last;
          }

      together : s.frozen + free_ones free' ≡ frozen + free_ones free
      together = ap (coordinates plus_zero a l n) here.walk ∙ (step_sound plus_zero a l n now-at).together

      more_frozen : more ≡ true → frozen < s.frozen
      more_frozen e =
          let f : s.frozen ≡ one.walk.frozen = ap (λ (w : Walk). w.frozen) here.walk in
          omega (arith, f, (step_sound plus_zero a l n now-at).more_frozen (sym here.more ∙ e))

      pub fewer_free : more ≡ true → free_ones free' < free_ones free
      fewer_free e = omega (arith, together, more_frozen e)

      pub going_on : (g' : List Float) → more ≡ true
          → length numbers' ≡ length numbers → length blocked' ≡ length blocked → length x' ≡ length x → length free' ≡ length free → length g' ≡ length g
          → Going a l numbers₀ blocked₀ x₀ free₀ g₀ start numbers' blocked' x' free' g' s.count s.frozen s.rng (directions + 1)
      going_on g' e ln lb lx lf lg =
          let q : Roomy l numbers blocked x free count = i.roomy in
          record {
            roomy = record {
              room = omega (arith, ln, lb, q.room);
              wide = lx ∙ q.wide;
              marks = lf ∙ q.marks;
              most = count_most l s.count numbers' blocked' x' free' s.frozen s.rng one.walk here.walk
                  (step_most plus_zero a l n now-at (omega (arith, counted)));
            };
            nums = ln ∙ i.nums;
            rows = lb ∙ i.rows;
            xs = lx ∙ i.xs;
            frees = lf ∙ i.frees;
            gs = lg ∙ i.gs;
            few = omega (arith, together, i.few);
            drawn_few = omega (arith, i.drawn_few, more_frozen e);
            same = ap (λ (w : Walk). course_from plus_zero a l n (going plus_zero a l n (directions + 1) w)) here.walk
                ∙ ap (λ (d : ℕ). course_from plus_zero a l n (going plus_zero a l n d one.walk)) (add-one directions)
                ∙ sym (phase_on_lem plus_zero a l n directions now-at (omega (arith, counted)) (sym here.more ∙ e)) ∙ i.same;
          }

-- ---- the whole phase

pub block_most : (z : Float) (a : ℕ → ℕ → Float) (l : ℕ) (rows : List ℕ) (k : ℕ) → length (block_to z a l rows k) ≤ l
unfolding block_to
block_most z a l rows zero = omega arith
block_most z a l rows (suc k) = inserted-most z l (block_to z a l rows k) (row_of a l (get_or rows k 0)) (block_most z a l rows k)

module _ (a : ℕ → ℕ → Float) (l : ℕ) (numbers : List Float) (blocked : List ℕ) (x : List Float) (free : List ℕ) (numbers' : List Float)
    (blocked' free' : List ℕ) (count : ℕ)
    (room : Roomy l numbers blocked x free 0) (b : Begun a l numbers (length blocked) count numbers' blocked') (ln : length numbers' ≡ length numbers)
    (lb : length blocked' ≡ length blocked)
    (ef : free' ≡ repeated 1 (length free)) where
  abbrev rows_of : ℕ
  rows_of = length blocked

  pub start-held : (rng : SplitMix64) → held numbers' blocked' x free' count 0 rng ≡ begun plus_zero a l rows_of x (ax_in rows_of numbers) rng
  unfolding begun
  start-held rng =
      walk_path refl (ef ∙ ap (repeated 1) room.marks) refl (ap (λ (k : ℕ). ax_in k numbers') lb ∙ b.ax) b.marks
      (ap₂ (λ (k m : ℕ). basis_in k m count numbers') lb room.wide ∙ b.basis) refl

  pub start_room : Roomy l numbers' blocked' x free' count
  start_room =
      let first : List ℕ = first_rows plus_zero a l rows_of (ax_in rows_of numbers) in
      let c : count ≡ length (block_to plus_zero a l first (length first)) =
      sym (length_vectors l count (drop (rows_of + rows_of + rows_of) numbers')) ∙ ap length b.basis in
      record {
        room = omega (arith, ln, lb, room.room);
        wide = room.wide;
        marks = ap length ef ∙ length-tab _ (length free) ∙ room.marks;
        most = omega (arith, c, block_most plus_zero a l first (length first));
      }

  pub phase_is : {numbers'' : List Float} {blocked'' : List ℕ} {x'' : List Float} {free'' : List ℕ} {r : Phased} (rng : SplitMix64)
      → CourseHolds numbers'' blocked'' x'' free'' r (course_of plus_zero a l (length blocked') (held numbers' blocked' x free' count 0 rng))
      → CourseHolds numbers'' blocked'' x'' free'' r (course_of plus_zero a l rows_of (begun plus_zero a l rows_of x (ax_in rows_of numbers) rng))
  phase_is {numbers''} {blocked''} {x''} {free''} {r} rng h =
      subst (CourseHolds numbers'' blocked'' x'' free'' r) (ap₂ (course_of plus_zero a l) lb (start-held rng)) h
