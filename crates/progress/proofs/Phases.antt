-- A phase of a standing walk is the original's, with any fuel that is enough: each of its steps is.
use mathlib.Core.Path.{◌≡◌, refl, sym, ap, ◌∙◌}
use Prim.Native.Nat.{ℕ, zero, suc, ◌≤◌}
use mathlib.Core.Bool.{Bool, true}
use mathlib.Core.List.{List}
use lib.Ieee.{Float}
use Rattle.seq.specs.Choice.{pick}
use Rattle.seq.specs.Sums.{plus_zero}
use Rattle.seq.specs.Until.{run}
use Rattle.blocking.specs.Freeze.{Walk}
use Rattle.walked.specs.Walk.{Stepped, Course, further, ended, left, free_ones, course_from, phase_of}
use Rattle.walked.proofs.Ending.{fuel}
use Rattle.walked.proofs.Counts.{run-keeps}
use Rattle.progress.specs.Original.{further_on, phase_on}
use Rattle.progress.proofs.Standing.{Fair, Standing}
use Rattle.progress.proofs.Steps.{step_on_lem, step_stands}

-- loops whose steps agree where something holds that each step keeps
run_agrees : {S : Type 0} (P : S → Type 0) (done : S → Bool) (f g : S → S) → ((s : S) → P s → f s ≡ g s) → ((s : S) → P s → P (f s))
    → (k : ℕ) (s : S) → P s → run done f k s ≡ run done g k s
unfolding run
run_agrees P done f g e h zero s p = refl
run_agrees P done f g e h (suc k) s p =
    ap (pick (done s) s) (run_agrees P done f g e h k (f s) (h s p)) ∙ ap (λ t. pick (done s) s (run done g k t)) (e s p)

module _ (a : ℕ → ℕ → Float) (l n : ℕ) (fair : Fair a l n) where
  abbrev good : List (List Float) → Type 0
  good = fair.Good

  abbrev next : Course → Course
  next c = further plus_zero a l n c

  abbrev stands : Course → Type 0
  stands c = Standing l good c.walk

  abbrev start : Walk → Course
  start w = record { more = true; walk = w; directions = 0 }

  -- the walk stands before each step
  pub always_stands : (w : Walk) → Standing l good w → (j : ℕ) → Standing l good (run (ended l) next j (start w)).walk
  always_stands w s j = run-keeps stands (ended l) next (λ c _ p. step_stands a l n fair c.walk p) j (start w) s

  pub phase_stands : (w : Walk) → Standing l good w → Standing l good (phase_of plus_zero a l n w)
  unfolding course_from
  phase_stands w s = always_stands w s (left (start w))

  -- so the phase is the original's
  pub phase_on_lem : (w : Walk) → Standing l good w → (k : ℕ) → suc (free_ones w.free) ≤ k → phase_on plus_zero a l n k w ≡ phase_of plus_zero a l n w
  unfolding course_from phase_on
  phase_on_lem w s k h =
      ap (λ (c : Course). c.walk)
      (sym (run_agrees stands (ended l) next (further_on plus_zero a l n)
      (λ c p. ap (λ (t : Stepped). record { more = t.more; walk = t.walk; directions = suc c.directions }) (step_on_lem a l n fair c.walk p))
      (λ c p. step_stands a l n fair c.walk p) k (start w) s)
      ∙ fuel plus_zero a l n k (start w) h)
