-- A phase of the walk, on its l columns: from where it begins, steps are made until one ends it.
use Rattle.std.specs.Prelude.{ℕ, suc, Bool, true, false, not, ◌||◌, List, ltb, length, Float}
use Rattle.seq.specs.Choice.{pick}
use Rattle.seq.specs.Keep.{count}
use Rattle.seq.specs.Until.{run}
use Rattle.std.specs.Float.Ieee.Scale.{finite}
use Rattle.seq.specs.Marks.{is_set}
use Rattle.direction.specs.Direction.{after_draws, drawn, directed, too_short, uphill, turned}
use Rattle.chosen.specs.Rows.{times}
use Rattle.direction.specs.Step.{reach_to, moved, along}
use Rattle.blocking.specs.Freeze.{Walk, freeze_to}

-- a walk, and whether its phase goes on
pub record Stepped : Type 0 where
  pub more : Bool
  pub walk : Walk

-- the walk with its generator moved on by l draws
abbrev pub drew : ℕ → Walk → Walk
drew l w = record {
  x = w.x;
  free = w.free;
  frozen = w.frozen;
  ax = w.ax;
  blocked = w.blocked;
  basis = w.basis;
  rng = after_draws w.rng l;
}

-- the walk moved by t along g, whose product with the matrix is ag
abbrev pub advanced : ℕ → Walk → Float → List Float → List Float → Walk
advanced l w t g ag = record {
  x = moved t w.x g w.free;
  free = w.free;
  frozen = w.frozen;
  ax = along t w.ax ag;
  blocked = w.blocked;
  basis = w.basis;
  rng = after_draws w.rng l;
}

-- The step along g: as far as x stays in [-1, 1]. A step that is not finite is none; one that freezes nothing is the phase's last.
unfoldable pub stepped_along : Float → (ℕ → ℕ → Float) → ℕ → ℕ → Walk → List Float → Stepped
stepped_along z a l n w g =
    let ag : List Float = times z a l n g in
    let up : Bool = uphill z w.ax ag in
    let t : Float = reach_to w.x (turned up g) w.free l in
    let v : Walk = freeze_to z a l n (advanced l w t (turned up g) (turned up ag)) l in
    pick (finite t) (record { more = ltb w.frozen v.frozen; walk = v }) (record { more = false; walk = drew l w })

-- One step: a direction is drawn, projected and zeroed at the frozen places; where too little is left of it, the phase ends.
unfoldable pub step_of : Float → (ℕ → ℕ → Float) → ℕ → ℕ → Walk → Stepped
step_of z a l n w =
    let d : List Float = drawn w.rng l in
    let g : List Float = directed z w.basis w.free d in
    pick (too_short z d g) (record { more = false; walk = drew l w }) (stepped_along z a l n w g)

-- how a phase goes: whether it goes on, where its walk stands, and how many directions it has drawn
pub record Course : Type 0 where
  pub more : Bool
  pub walk : Walk
  pub directions : ℕ

-- one step more: its direction counts however the step ends
abbrev pub further : Float → (ℕ → ℕ → Float) → ℕ → ℕ → Course → Course
further z a l n c =
    let s : Stepped = step_of z a l n c.walk in
    record { more = s.more; walk = s.walk; directions = suc c.directions }

-- the phase ends: the last step said so, or the basis is full
abbrev pub ended : ℕ → Course → Bool
ended l c = not c.more || not (ltb (length c.walk.basis) l)

-- how many coordinates of the phase are free: what a step that goes on makes smaller
abbrev pub free_ones : List ℕ → ℕ
free_ones free = count (is_set free) (length free)

-- how many steps can still be made
abbrev pub left : Course → ℕ
left c = pick c.more (suc (free_ones c.walk.free)) 0

-- how a phase goes on from where it stands
unfoldable pub course_from : Float → (ℕ → ℕ → Float) → ℕ → ℕ → Course → Course
course_from z a l n c = run (ended l) (further z a l n) (left c) c

-- a whole phase
abbrev pub course_of : Float → (ℕ → ℕ → Float) → ℕ → ℕ → Walk → Course
course_of z a l n w = course_from z a l n (record { more = true; walk = w; directions = 0 })

-- where it leads
abbrev pub phase_of : Float → (ℕ → ℕ → Float) → ℕ → ℕ → Walk → Walk
phase_of z a l n w = (course_of z a l n w).walk
