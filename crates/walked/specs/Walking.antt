-- Told between functions: what a step and a phase leave in the scratch.
use Rattle.std.specs.Prelude.{ℕ, ◌≡◌, Bool, List, Float}
use Rattle.walked.specs.Walk.{Stepped, Course}
use Rattle.blocking.specs.Held.{held}
use Rattle.walked.specs.declared.Stand.{Stand}
use Rattle.walked.specs.declared.Phased.{Phased}

-- the scratch and where the walk stands after a step hold o, and the answer r says whether the phase goes on
pub record StepHolds (numbers : List Float) (blocked : List ℕ) (x : List Float) (free : List ℕ) (at : Stand) (r : Bool) (o : Stepped) : Type 0 where
  pub more : r ≡ o.more
  pub walk : held numbers blocked x free at.count at.frozen at.rng ≡ o.walk

-- the scratch and the answer r of a phase hold how it went
pub record CourseHolds (numbers : List Float) (blocked : List ℕ) (x : List Float) (free : List ℕ) (r : Phased) (c : Course) : Type 0 where
  pub walk : held numbers blocked x free r.at.count r.at.frozen r.at.rng ≡ c.walk
  pub directions : r.directions ≡ c.directions
