-- What one halving adds to the counts: at most two directions for each index that remains, and at most 100 sweeps.
use Prim.Native.Nat.{ℕ, suc, ◌+◌, ◌*◌, ◌≤◌}
use mathlib.Core.Path.{◌≡◌, ap}
use mathlib.Core.Bool.{Bool, true, false}
use mathlib.Core.List.{List}
use native.Mathlib.Omega.{arith}
use lib.Dec.{eqb}
use lib.ListN.{length}
use lib.Ieee.{Float}
use Rattle.seq.specs.Choice.{pick}
use Rattle.weights.specs.Weights.{is_on}
use Rattle.colored.specs.Coloring.{Colored, coloring_of}
use Rattle.colored.proofs.Counts.{directions_most, sweeps_few}
use Rattle.doubling.specs.Doubling.{remaining}
use Rattle.doubling.proofs.Turns.{those_short}
use Rattle.halved.specs.Halve.{Halved, scaled_columns, halved_by, halved_once}
use Rattle.halved.specs.Handed.{Countable, halves_of}
use Rattle.colored.specs.declared.Counted.{Counted}

-- the counts of k are those of h, with so many directions and sweeps more at most
pub record Adds (directions sweeps : ℕ) (h k : Halved) : Type 0 where
  pub drawn : k.directions ≤ h.directions + directions
  pub swept : k.sweeps ≤ h.sweeps + sweeps

module _ (z : Float) (matrix : ℕ → ℕ → Float) (n : ℕ) (ω : Float) (rest : List ℕ) (h : Halved) where
  abbrev some : List ℕ
  some = remaining h.w rest

  pub once_adds : Adds (2 * length rest) 100 h (halved_once z matrix n ω rest h)
  unfolding halved_once
  once_adds = go (eqb (length some) 0)
    where
      c : Colored
      c = coloring_of z (scaled_columns matrix n h.w ω some) (length some) (suc n) h.rng

      go : (t : Bool) → Adds (2 * length rest) 100 h (pick t h (halved_by h some c))
      go true = record { drawn = omega arith; swept = omega arith }
      go false =
          let columns = scaled_columns matrix n h.w ω some in
          let fewer = those_short (is_on h.w) rest (length rest) in
          record {
            drawn = omega (arith, directions_most z columns (length some) (suc n) h.rng, fewer);
            swept = omega (arith, sweeps_few z columns (length some) (suc n) h.rng);
          }

-- where two more can be counted, one more can
pub one_countable : {c : Counted} → Countable c 2 → Countable c 1
one_countable room = record { directions = omega (arith, room.directions); sweeps = omega (arith, room.sweeps) }

-- so where two more could be counted, one more can be after the first
pub countable_once : {a b : Counted} (z : Float) (matrix : ℕ → ℕ → Float) (n : ℕ) (ω : Float) (rest : List ℕ) (w v : List Float)
    → Countable a 2 → length rest ≤ 256 → halves_of v b ≡ halved_once z matrix n ω rest (halves_of w a) → Countable b 1
countable_once {a} z matrix n ω rest w v room few e =
    let adds = once_adds z matrix n ω rest (halves_of w a) in
    record {
      directions = omega (arith, room.directions, adds.drawn, few, ap (λ (h : Halved). h.directions) e);
      sweeps = omega (arith, room.sweeps, adds.swept, ap (λ (h : Halved). h.sweeps) e);
    }
