-- The two turns of the loop that rounds what is free: where x is 0 or above, and where it is not.
use Prim.Native.Nat.{ℕ, ◌+◌, ◌<◌}
use mathlib.Core.Path.{◌≡◌}
use mathlib.Core.Bool.{true, false}
use mathlib.Core.List.{List}
use borrow.Author.Tests.{eq-eqb}
use lib.ListN.{length, get_or, set}
use lib.Ieee.{Float, nan, le, neg}
use Rattle.seq.specs.Sums.{plus_zero, at}
use Rattle.seq.proofs.Filling.{Filled, turn, still}
use Rattle.ieee.specs.Constants.{one}
use Rattle.ieee.proofs.Magnitudes.{minus_one_lem}
use Rattle.places.specs.Places.{rounded_at}

module _ {x₀ x : List Float} (free : List ℕ) {j : ℕ} (v : Filled (rounded_at x₀ free) x₀ j x) (h : j < length x₀) (f : get_or free j 0 ≡ 1) where
  pub round_up : le plus_zero (at x j) ≡ true → Filled (rounded_at x₀ free) x₀ (j + 1) (set x j one)
  round_up e =
      let q : le plus_zero (at x₀ j) ≡ true = rw (still v h nan) at e in
      turn v h (rw (eq-eqb (get_or free j 0) 1 f, q))

  pub round-down : le plus_zero (at x j) ≡ false → Filled (rounded_at x₀ free) x₀ (j + 1) (set x j (neg one))
  round-down e =
      let q : le plus_zero (at x₀ j) ≡ false = rw (still v h nan) at e in
      turn v h (rw (eq-eqb (get_or free j 0) 1 f, q) minus_one_lem)
