-- How far a step goes, and where it leads.
use Rattle.std.specs.Prelude.{ℕ, zero, suc, false, not, ◌&&◌, List, length, Float}
use Rattle.std.specs.Float.{inf, binary64}
use Rattle.std.specs.Float.Ieee.{add, sub, mul, div, eq}
use Rattle.seq.specs.Choice.{pick}
use Rattle.seq.specs.Lists.{tabulate}
use Rattle.seq.specs.Sums.{plus_zero, at}
use Rattle.ieee.specs.Magnitude.{signum_of, smaller_of, clamp_of}
use Rattle.ieee.specs.Constants.{one, minus_one}
use Rattle.seq.specs.Marks.{is_set}

-- how far coordinate p can go before it is 1 or -1
abbrev pub reach_at : List Float → List Float → ℕ → Float
reach_at x g p = div binary64 (sub binary64 (signum_of (at g p)) (at x p)) (at g p)

-- the smallest reach of the free coordinates below k that move, a NaN skipped; infinity of none
unfoldable pub reach_to : List Float → List Float → List ℕ → ℕ → Float
reach_to x g free zero = inf false
reach_to x g free (suc k) =
    let r : Float = reach_to x g free k in
    pick (is_set free k && not (eq (at g k) plus_zero)) (smaller_of r (reach_at x g k)) r

-- x + t g at the free coordinates, kept in [-1, 1]
abbrev pub moved_at : Float → List Float → List Float → List ℕ → ℕ → Float
moved_at t x g free p =
    pick (is_set free p) (clamp_of (add binary64 (at x p) (mul binary64 t (at g p))) minus_one one) (at x p)

unfoldable pub moved : Float → List Float → List Float → List ℕ → List Float
moved t x g free = tabulate (moved_at t x g free) (length x)

-- ax + t ag
abbrev pub along_at : Float → List Float → List Float → ℕ → Float
along_at t ax ag i = add binary64 (at ax i) (mul binary64 t (at ag i))

unfoldable pub along : Float → List Float → List Float → List Float
along t ax ag = tabulate (along_at t ax ag) (length ax)
