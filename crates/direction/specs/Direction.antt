-- A direction: drawn for all l places, projected, then zeroed at the frozen ones. z is what a sum starts from.
use Rattle.std.specs.Prelude.{ℕ, zero, suc, Bool, List, length, Float}
use Rattle.std.specs.Float.{binary64}
use Rattle.std.specs.Float.Ieee.{of_bits, mul, neg, le, lt}
use Rattle.seq.specs.Choice.{pick}
use Rattle.seq.specs.Lists.{tabulate}
use Rattle.seq.specs.Sums.{plus_zero, at}
use Rattle.draw.specs.declared.SplitMix64.{SplitMix64}
use Rattle.draw.specs.Gaussian.{gaussian_of, after_gaussian}
use Rattle.linear.specs.Vectors.{dot_of, norm_of}
use Rattle.basis.specs.Basis.{projected}
use Rattle.seq.specs.Marks.{is_set}

-- the generator after k draws
unfoldable pub after_draws : SplitMix64 → ℕ → SplitMix64
after_draws rng zero = rng
after_draws rng (suc k) = after_gaussian (after_draws rng k)

-- the draw after k others
unfoldable pub draw_at : SplitMix64 → ℕ → Float
draw_at rng k = gaussian_of (after_draws rng k)

-- l draws
abbrev pub drawn : SplitMix64 → ℕ → List Float
drawn rng l = tabulate (draw_at rng) l

-- g with 0.0 at each place that is not free
abbrev pub zeroed_at : List ℕ → List Float → ℕ → Float
zeroed_at free g p = pick (is_set free p) (at g p) plus_zero

unfoldable pub zeroed : List ℕ → List Float → List Float
zeroed free g = tabulate (zeroed_at free g) (length g)

-- the draws d projected, and zeroed at the frozen places
unfoldable pub directed : Float → List (List Float) → List ℕ → List Float → List Float
directed z basis free d = zeroed free (projected z basis d)

-- 1e-9: a direction shorter than this part of the drawn one is none
abbrev pub degenerate : Float
degenerate = of_bits binary64 0x3E11_2E0B_E826_D695

-- g is too short beside the draws d
unfoldable pub too_short : Float → List Float → List Float → Bool
too_short z d g = le (norm_of z g) (mul binary64 degenerate (norm_of z d))

-- the direction increases the norm of A x to first order
unfoldable pub uphill : Float → List Float → List Float → Bool
uphill z ax ag = lt plus_zero (dot_of z ax ag)

-- each entry negated where the direction is uphill
abbrev pub turned_at : Bool → List Float → ℕ → Float
turned_at t v i = pick t (neg (at v i)) (at v i)

unfoldable pub turned : Bool → List Float → List Float
turned t v = tabulate (turned_at t v) (length v)
