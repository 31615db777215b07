-- The walk by the original's rule: a step that freezes nothing does not end its phase. The original has no bound on the steps of a phase;
-- here it is the fuel.
use Rattle.std.specs.Prelude.{ℕ, suc, ◌<◌, ◌≡◌, Bool, true, not, ◌&&◌, List, length, get_or, Float}
use Rattle.std.specs.Float.Ieee.Scale.{finite}
use Rattle.seq.specs.Lists.{repeated}
use Rattle.seq.specs.Sums.{plus_zero}
use Rattle.seq.specs.Keep.{keep}
use Rattle.seq.specs.Until.{run}
use Rattle.seq.specs.Marks.{is_set}
use Rattle.direction.specs.Direction.{drawn, directed, too_short, uphill, turned}
use Rattle.direction.specs.Step.{reach_to}
use Rattle.chosen.specs.Rows.{times}
use Rattle.blocking.specs.Freeze.{Walk}
use Rattle.begin.specs.Begin.{begun}
use Rattle.walked.specs.Walk.{Stepped, step_of, Course, further, ended, phase_of}
use Rattle.places.specs.Places.{chosen}
use Rattle.phased.specs.Phase.{Between, phased}
use Rattle.colored.specs.Coloring.{settled}
use Rattle.draw.specs.declared.SplitMix64.{SplitMix64}

-- what the walk draws from
abbrev pub Generator : Type 0
Generator = SplitMix64

-- how far the step along g goes from w
abbrev pub reach_from : Float → (ℕ → ℕ → Float) → ℕ → ℕ → Walk → List Float → Float
reach_from z a l n w g = reach_to w.x (turned (uphill z w.ax (times z a l n g)) g) w.free l

-- the direction that w draws is long enough, and the step along it finite
unfoldable pub goes_on : Float → (ℕ → ℕ → Float) → ℕ → ℕ → Walk → Bool
goes_on z a l n w =
    let d : List Float = drawn w.rng l in
    let g : List Float = directed z w.basis w.free d in
    not (too_short z d g) && finite (reach_from z a l n w g)

-- one step: only a direction that is too short, and a step that is not finite, end the phase
unfoldable pub step_on : Float → (ℕ → ℕ → Float) → ℕ → ℕ → Walk → Stepped
step_on z a l n w = record { more = goes_on z a l n w; walk = (step_of z a l n w).walk }

-- one step more, and its direction is counted
abbrev pub further_on : Float → (ℕ → ℕ → Float) → ℕ → ℕ → Course → Course
further_on z a l n c =
    let s : Stepped = step_on z a l n c.walk in
    record { more = s.more; walk = s.walk; directions = suc c.directions }

-- a phase of at most so many steps
unfoldable pub phase_on : Float → (ℕ → ℕ → Float) → ℕ → ℕ → ℕ → Walk → Walk
phase_on z a l n fuel w = (run (ended l) (further_on z a l n) fuel (record { more = true; walk = w; directions = 0 })).walk

-- ---- the phases of a walk on k columns and n rows, as the product makes them

-- what stands before phase i
abbrev pub before : Float → (ℕ → ℕ → Float) → ℕ → ℕ → Generator → ℕ → Between
before z a k n rng i =
    run settled (phased z a k n) i (record {
      x = repeated plus_zero k;
      free = repeated 1 k;
      ax = repeated plus_zero n;
      rng = rng;
      directions = 0;
    })

-- the columns that are free there
abbrev pub columns_at : ℕ → Between → List ℕ
columns_at k b = keep (is_set b.free) k

-- the matrix of these columns
abbrev pub entries_at : (ℕ → ℕ → Float) → ℕ → Between → ℕ → ℕ → Float
entries_at a k b p = a (get_or (columns_at k b) p 0)

-- where the phase on them begins
abbrev pub begins_at : Float → (ℕ → ℕ → Float) → ℕ → ℕ → Between → Walk
begins_at z a k n b = begun z (entries_at a k b) (length (columns_at k b)) n (chosen b.x (columns_at k b)) b.ax b.rng

-- and where it is after j steps
abbrev pub walk_at : Float → (ℕ → ℕ → Float) → ℕ → ℕ → Between → ℕ → Walk
walk_at z a k n b j =
    let l : ℕ = length (columns_at k b) in
    (run (ended l) (further z (entries_at a k b) l n) j (record { more = true; walk = begins_at z a k n b; directions = 0 })).walk

-- Every step gets somewhere, in the colouring of k columns and n rows: each step of each phase is the original's, so that none ends
-- its phase by freezing nothing, and each phase is the original's with any fuel above k.
pub record GetsSomewhere (a : ℕ → ℕ → Float) (k n : ℕ) (rng : Generator) : Type 0 where
  pub steps : (i j : ℕ) → let b = before plus_zero a k n rng i in let w = walk_at plus_zero a k n b j in
      step_of plus_zero (entries_at a k b) (length (columns_at k b)) n w ≡ step_on plus_zero (entries_at a k b) (length (columns_at k b)) n w
  pub phases : (i fuel : ℕ) → k < fuel → let b = before plus_zero a k n rng i in let w = begins_at plus_zero a k n b in
      phase_of plus_zero (entries_at a k b) (length (columns_at k b)) n w ≡ phase_on plus_zero (entries_at a k b) (length (columns_at k b)) n fuel w
