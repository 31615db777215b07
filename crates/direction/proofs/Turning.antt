-- The turns of the loop that looks for the largest step, and a direction from what its pieces give.
use Prim.Native.Nat.{ℕ, ◌+◌}
use mathlib.Core.Path.{◌≡◌, ap, ◌∙◌}
use mathlib.Core.Bool.{true, false}
use mathlib.Core.List.{List}
use native.Mathlib.Numerals.{add-one}
use borrow.Author.Tests.{eq-eqb, ne_eqb}
use lib.ListN.{get_or}
use lib.Ieee.{Float, binary64, sub, mul, div, ne, le}
use Rattle.seq.specs.Sums.{plus_zero, at}
use Rattle.ieee.specs.Magnitude.{signum_of, smaller_of}
use Rattle.linear.specs.Vectors.{norm_of}
use Rattle.basis.specs.Basis.{projected}
use Rattle.direction.specs.Direction.{degenerate, zeroed, directed, too_short}
use Rattle.direction.specs.Step.{reach_to}
use Rattle.direction.specs.Directing.{DirectedFrom}

-- the turns of the loop that looks for the largest step
module _ (x g : List Float) (free : List ℕ) (k : ℕ) (r : Float) (so_far : r ≡ reach_to x g free k) where
  pub reach_moves : (s r' : Float) → get_or free k 0 ≡ 1 → ne (at g k) plus_zero ≡ true → s ≡ signum_of (at g k)
      → r' ≡ smaller_of r (div binary64 (sub binary64 s (at x k)) (at g k)) → r' ≡ reach_to x g free (k + 1)
  unfolding reach_to ne
  reach_moves s r' h e es er = er ∙ rw (add-one k, eq-eqb (get_or free k 0) 1 h, e, es, so_far)

  pub reach_still : get_or free k 0 ≡ 1 → ne (at g k) plus_zero ≡ false → r ≡ reach_to x g free (k + 1)
  unfolding reach_to ne
  reach_still h e = so_far ∙ rw (add-one k, eq-eqb (get_or free k 0) 1 h, e)

  pub reach_frozen : (get_or free k 0 ≡ 1 → ⊥) → r ≡ reach_to x g free (k + 1)
  unfolding reach_to
  reach_frozen h = so_far ∙ rw (add-one k, ne_eqb (get_or free k 0) 1 h)

-- a direction, from what its pieces give
pub directs : (z : Float) (basis : List (List Float)) (free : List ℕ) (g p q : List Float) (before after : Float)
    → before ≡ norm_of z g → p ≡ projected z basis g → q ≡ zeroed free p → after ≡ norm_of z q
    → DirectedFrom z basis free g (le after (mul binary64 degenerate before)) q
unfolding directed too_short
directs z basis free g p q before after eb ep eq ea =
    let e : q ≡ zeroed free (projected z basis g) = eq ∙ ap (zeroed free) ep in
    record { left = e; short = rw (ea, eb, e) }
