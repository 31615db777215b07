-- A phase on the columns at some places: what is chosen there is a matrix of its own, whose entries are those at the places,
-- and what the phase leaves, put back, is what the definition of a phase says.
use Prim.Native.Nat.{ℕ, ◌+◌, ◌≤◌, ◌<◌}
use mathlib.Core.Path.{◌≡◌, sym, ap, ◌∙◌, subst}
use mathlib.Core.Logic.{◌≢◌}
use mathlib.Core.Bool.{Bool, true, false}
use mathlib.Core.List.{List}
use native.Mathlib.Omega.{arith}
use native.Mathlib.Nat.{mul-le-mul}
use borrow.Author.Tests.{eq-eqb, ne_eqb}
use lib.Dec.{eqb}
use lib.ListN.{length, get_or, take}
use lib.Ieee.{Float, nan}
use Rattle.seq.specs.Choice.{pick}
use Rattle.seq.specs.Lists.{tabulate, repeated}
use Rattle.seq.specs.Sums.{plus_zero, at}
use Rattle.seq.specs.Keep.{keep}
use Rattle.seq.specs.Indices.{Pushed, Below}
use Rattle.seq.proofs.Filling.{length-tab, get_or-tab}
use Rattle.seq.proofs.Keeping.{keep_short, keep-good}
use Rattle.seq.specs.Marks.{is_set}
use Rattle.chosen.specs.Entries.{entry_of}
use Rattle.chosen.specs.ChosenColumns.{Chosen}
use Rattle.blocking.specs.Freeze.{Walk}
use Rattle.begin.specs.Begin.{begun}
use Rattle.walked.specs.Walk.{course_of}
use Rattle.walked.specs.Walking.{CourseHolds}
use Rattle.walked.specs.declared.Phased.{Phased}
use Rattle.blocking.specs.Held.{ax_in, Roomy}
use Rattle.places.specs.Places.{chosen, put_back, rounded_at, words_at}
use Rattle.phased.specs.Phase.{Between, rounded_off, phased}
use Rattle.phased.specs.Phasing.{between, inside_of, PhasedAt}
use Rattle.walked.proofs.SameEntries.{begun_same, phase_same}
use Rattle.draw.specs.declared.SplitMix64.{SplitMix64}

-- ---- what is chosen

module _ (matrix : List Float) (bits : List ℕ) (n : ℕ) (cols : List ℕ) (scale : List Float) (places : List ℕ) where
  -- an entry of the chosen columns is the entry at its place
  entry-chosen : (p : ℕ) → p < length places → (i : ℕ)
      → entry_of matrix bits n (words_at cols places) (chosen scale places) p i ≡ entry_of matrix bits n cols scale (get_or places p 0) i
  entry-chosen p h i =
      rw (get_or-tab {A = ℕ} (λ q. get_or cols (get_or places q 0) 0) (length places) p 0 h, get_or-tab (λ q. at scale (get_or places q 0)) (length places) p nan h)

  pub chosen-part : (rows : ℕ) → Chosen matrix bits n cols scale rows → Below places (length cols) → length places ≤ length cols
      → Chosen matrix bits n (words_at cols places) (chosen scale places) rows
  chosen-part rows c b h =
      let lc : length (words_at cols places) ≡ length places = length-tab {A = ℕ} (λ q. get_or cols (get_or places q 0) 0) (length places) in
      let ls : length (chosen scale places) ≡ length places = length-tab (λ q. at scale (get_or places q 0)) (length places) in
      record {
        low = c.low;
        high = c.high;
        short = c.short;
        few = omega (arith, c.few);
        paired = ls ∙ sym lc;
        inside = λ p g.
            let q : p < length places = omega arith in
            rw (get_or-tab {A = ℕ} (λ q. get_or cols (get_or places q 0) 0) (length places) p 0 q) (c.inside (get_or places p 0) (b.below p q));
        sound = λ p i g t.
            let q : p < length places = omega arith in
            rw (entry-chosen p q i) (c.sound (get_or places p 0) i (b.below p q)
            (rw (get_or-tab (λ q. at scale (get_or places q 0)) (length places) p nan q) at t));
      }

pub roomy_part : (k l : ℕ) (numbers : List Float) (blocked : List ℕ) (x some-x : List Float) (free some-free : List ℕ)
    → Roomy k numbers blocked x free 0 → l ≤ k → length some-x ≡ l → length some-free ≡ l → Roomy l numbers blocked some-x some-free 0
roomy_part k l numbers blocked x some-x free some-free r h ex ef =
    record { room = omega (arith, r.room, mul-le-mul h h); wide = ex; marks = ef; most = omega arith }

-- ---- what the phase leaves

module _ (matrix : List Float) (bits : List ℕ) (n : ℕ) (cols : List ℕ) (scale : List Float) (places : List ℕ) (rows : ℕ) (rng : SplitMix64)
    (numbers x : List Float)
    (free : List ℕ) where
  abbrev entry : ℕ → ℕ → Float
  entry = entry_of matrix bits n cols scale

  -- the phase on the chosen columns is the phase on those at the places
  inside_is : course_of plus_zero (entry_of matrix bits n (words_at cols places) (chosen scale places)) (length places) rows
      (begun plus_zero (entry_of matrix bits n (words_at cols places) (chosen scale places)) (length places) rows (chosen x places) (ax_in rows numbers) rng)
      ≡ inside_of entry rows places rng numbers x
  inside_is =
      ap (course_of plus_zero (entry_of matrix bits n (words_at cols places) (chosen scale places)) (length places) rows)
      (begun_same plus_zero (entry_of matrix bits n (words_at cols places) (chosen scale places)) (λ p. entry (get_or places p 0)) (length places) rows
      (λ p i h _. entry-chosen matrix bits n cols scale places p h i) (chosen x places) (ax_in rows numbers) rng)
      ∙ phase_same plus_zero (entry_of matrix bits n (words_at cols places) (chosen scale places)) (λ p. entry (get_or places p 0)) (length places) rows
      (λ p i h _. entry-chosen matrix bits n cols scale places p h i) _

  module _ (some-cols : List ℕ) (some-scale some-x : List Float)
      (ec : some-cols ≡ words_at cols places) (es : some-scale ≡ chosen scale places) (ex : some-x ≡ chosen x places) where
    pub phased-at : {numbers' : List Float} {blocked' : List ℕ} {sub-x : List Float} {sub-free : List ℕ} {x' : List Float} {free' : List ℕ} {r : Phased}
        → CourseHolds numbers' blocked' sub-x sub-free r (course_of plus_zero (entry_of matrix bits n some-cols some-scale) (length some-cols) rows
        (begun plus_zero (entry_of matrix bits n some-cols some-scale) (length some-cols) rows some-x (ax_in rows numbers) rng))
        → length blocked' ≡ rows
        → x' ≡ put_back plus_zero places sub-x x (length places)
        → free' ≡ put_back 0 places sub-free free (length places)
        → PhasedAt entry rows places rng numbers x free r numbers' x' free'
    phased-at {numbers'} {blocked'} {sub-x} {sub-free} {x'} {free'} {r} h lb mx mf =
        let lc : length (words_at cols places) ≡ length places = length-tab {A = ℕ} (λ q. get_or cols (get_or places q 0) 0) (length places) in
        let i : CourseHolds numbers' blocked' sub-x sub-free r (inside_of entry rows places rng numbers x) =
        subst (CourseHolds numbers' blocked' sub-x sub-free r) inside_is (rw (ec, es, ex, lc) at h) in
        record {
          froze = ap (λ (w : Walk). w.frozen) i.walk;
          moves = mx ∙ ap (λ (w : Walk). put_back plus_zero places w.x x (length places)) i.walk;
          marks = mf ∙ ap (λ (w : Walk). put_back 0 places w.free free (length places)) i.walk;
          ax = ap (λ (k : ℕ). ax_in k numbers') (sym lb) ∙ ap (λ (w : Walk). w.ax) i.walk;
          draws = ap (λ (w : Walk). w.rng) i.walk;
          counts = i.directions;
        }

-- ---- a phase on the free columns

-- the places of the marks that are set lie below, and are not more
pub places-below : (free places : List ℕ) (k l : ℕ) → length free ≡ k → Pushed (keep (is_set free) (length free)) l places
    → Below (take l places) k × (length (take l places) ≤ k)
places-below free places k l e p =
    rw (p.front, e) (record { below = λ q h. (keep-good (is_set free) k q h).1 }, keep_short (is_set free) k)

pub places_few : (free places : List ℕ) (k l : ℕ) → length free ≡ k → Pushed (keep (is_set free) (length free)) l places → l ≤ k
places_few free places k l e p = omega (arith, e, p.long, keep_short (is_set free) (length free))

module _ (a : ℕ → ℕ → Float) (k rows : ℕ) (rng : SplitMix64) (numbers x : List Float) (free places : List ℕ) (r : Phased) (numbers' x' : List Float)
    (free' : List ℕ)
    (is : places ≡ keep (is_set free) k) (at : PhasedAt a rows places rng numbers x free r numbers' x' free') (d : ℕ) where
  -- what stands once the phase's coordinates are back at some places
  abbrev after : List ℕ → Between
  after ps = record {
    x = put_back plus_zero ps (inside_of a rows ps rng numbers x).walk.x x (length ps);
    free = put_back 0 ps (inside_of a rows ps rng numbers x).walk.free free (length ps);
    ax = (inside_of a rows ps rng numbers x).walk.ax;
    rng = (inside_of a rows ps rng numbers x).walk.rng;
    directions = d + (inside_of a rows ps rng numbers x).directions;
  }

  stands : between rows numbers' x' free' r.at.rng (d + r.directions) ≡ after places
  stands = rw (at.moves, at.marks, at.ax, at.draws, at.counts)

  picks : (t : Bool) → eqb r.at.frozen 0 ≡ t
      → phased plus_zero a k rows (between rows numbers x free rng d) ≡ pick t (rounded_off (after places)) (after places)
  unfolding phased
  picks t e =
      let f : eqb (inside_of a rows (keep (is_set free) k) rng numbers x).walk.frozen 0 ≡ t = rw (at.froze, is) at e in
      rw is (ap (λ (s : Bool). pick s (rounded_off (after (keep (is_set free) k))) (after (keep (is_set free) k))) f)

  -- a phase that froze some
  pub phase_goes : r.at.frozen ≢ 0
      → between rows numbers' x' free' r.at.rng (d + r.directions) ≡ phased plus_zero a k rows (between rows numbers x free rng d)
  phase_goes f = stands ∙ sym (picks false (ne_eqb r.at.frozen 0 f))

  -- a phase that froze none: what is free is rounded
  pub phase_rounds : (x'' : List Float) (free'' : List ℕ) → r.at.frozen ≡ 0
      → x'' ≡ tabulate (rounded_at x' free') (length x') → free'' ≡ repeated 0 (length free')
      → between rows numbers' x'' free'' r.at.rng (d + r.directions) ≡ phased plus_zero a k rows (between rows numbers x free rng d)
  phase_rounds x'' free'' f ex ef =
      let s : between rows numbers' x'' free'' r.at.rng (d + r.directions)
      ≡ rounded_off (between rows numbers' x' free' r.at.rng (d + r.directions)) = rw (ex, ef) in
      s ∙ ap rounded_off stands ∙ sym (picks true (eq-eqb r.at.frozen 0 f))
