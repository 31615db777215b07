-- Told between functions: where the walk starts, and what it, local search and a colouring leave.
use Rattle.std.specs.Prelude.{ℕ, ◌≡◌, List, Float}
use Rattle.seq.specs.Lists.{repeated}
use Rattle.seq.specs.Sums.{plus_zero}
use Rattle.chosen.specs.Rows.{times}
use Rattle.blocking.specs.Held.{ax_in}
use Rattle.phased.specs.Phasing.{between}
use Rattle.flipping.specs.Search.{searched}
use Rattle.flipping.specs.Searching.{searched_in}
use Rattle.colored.specs.Coloring.{Colored, walked}
use Rattle.colored.specs.declared.Counted.{Counted}
use Rattle.draw.specs.declared.SplitMix64.{SplitMix64}

-- the walk's start: every coordinate 0 and free, and A x 0
pub record Fresh (k rows : ℕ) (numbers x : List Float) (free : List ℕ) : Type 0 where
  pub zero : x ≡ repeated plus_zero k
  pub all : free ≡ repeated 1 k
  pub flat : ax_in rows numbers ≡ repeated plus_zero rows

-- the whole walk of k columns was made from the generator rng: this is where it ends
pub record WalkedAs (a : ℕ → ℕ → Float) (k rows : ℕ) (rng : SplitMix64) (numbers x : List Float) (free : List ℕ) (rng' : SplitMix64)
    (directions : ℕ) : Type 0 where
  pub ends : between rows numbers x free rng' directions ≡ walked plus_zero a k rows rng

-- local search was made from the colours x, with A x of so many rows anew: x' are its colours, and r its sweeps
pub record SearchedAs (a : ℕ → ℕ → Float) (k rows : ℕ) (x x' : List Float) (r : ℕ) : Type 0 where
  pub ends : searched_in x' r ≡ searched a k x (times plus_zero a k rows x)

-- the colours and the answer r of a colouring are those of c
pub record ColoredAs (x : List Float) (r : Counted) (c : Colored) : Type 0 where
  pub colours : x ≡ c.x
  pub draws : r.rng ≡ c.rng
  pub directions : r.directions ≡ c.directions
  pub sweeps : r.sweeps ≡ c.sweeps
