-- One phase of the walk, on the free columns of k columns of n rows.
use Rattle.std.specs.Prelude.{ℕ, ◌+◌, List, eqb, length, get_or, Float}
use Rattle.seq.specs.Choice.{pick}
use Rattle.seq.specs.Lists.{tabulate, repeated}
use Rattle.seq.specs.Sums.{plus_zero}
use Rattle.seq.specs.Keep.{keep}
use Rattle.seq.specs.Marks.{is_set}
use Rattle.begin.specs.Begin.{begun}
use Rattle.walked.specs.Walk.{Course, course_of}
use Rattle.places.specs.Places.{chosen, put_back, rounded_at}
use Rattle.draw.specs.declared.SplitMix64.{SplitMix64}

-- what stands between two phases: all k coordinates, which of them are free, A x, the generator, and how many directions were drawn
pub record Between : Type 0 where
  pub x : List Float
  pub free : List ℕ
  pub ax : List Float
  pub rng : SplitMix64
  pub directions : ℕ

-- a phase that froze nothing is the last: what is free is rounded
abbrev pub rounded_off : Between → Between
rounded_off b = record {
  x = tabulate (rounded_at b.x b.free) (length b.x);
  free = repeated 0 (length b.free);
  ax = b.ax;
  rng = b.rng;
  directions = b.directions;
}

-- one phase, on the free columns
unfoldable pub phased : Float → (ℕ → ℕ → Float) → ℕ → ℕ → Between → Between
phased z a k n b =
    let phase : List ℕ = keep (is_set b.free) k in
    let l : ℕ = length phase in
    let inside : ℕ → ℕ → Float = λ p. a (get_or phase p 0) in
    let c : Course = course_of z inside l n (begun z inside l n (chosen b.x phase) b.ax b.rng) in
    let after : Between = record {
      x = put_back plus_zero phase c.walk.x b.x l;
      free = put_back 0 phase c.walk.free b.free l;
      ax = c.walk.ax;
      rng = c.walk.rng;
      directions = b.directions + c.directions;
    } in
    pick (eqb c.walk.frozen 0) (rounded_off after) after
