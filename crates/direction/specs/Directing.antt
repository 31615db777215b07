-- Told between functions: what is left of draws, and whether it is too little.
use Rattle.std.specs.Prelude.{ℕ, ◌≡◌, Bool, List, Float}
use Rattle.direction.specs.Direction.{directed, too_short}

-- g' is the direction that is left of the draws g, and r says whether it is too short beside them
pub record DirectedFrom (z : Float) (basis : List (List Float)) (free : List ℕ) (g : List Float) (r : Bool) (g' : List Float) : Type 0 where
  pub left : g' ≡ directed z basis free g
  pub short : r ≡ too_short z g (directed z basis free g)
