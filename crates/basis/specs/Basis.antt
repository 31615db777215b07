-- An orthonormal basis as a list of its vectors: projection in two passes, and insertion. z is what a sum starts from.
use Rattle.std.specs.Prelude.{ℕ, zero, suc, Bool, not, ◌&&◌, List, [], ◌∷◌, ◌++◌, ltb, length, get_or, Float}
use Rattle.std.specs.Float.{binary64}
use Rattle.std.specs.Float.Ieee.{sub, mul, div, eq, le, of_bits}
use Rattle.seq.specs.Choice.{pick}
use Rattle.seq.specs.Lists.{tabulate}
use Rattle.seq.specs.Sums.{plus_zero, at}
use Rattle.linear.specs.Vectors.{dot_of, norm_of}

-- an entry of v - c q
abbrev pub less_at : Float → List Float → List Float → ℕ → Float
less_at c q v i = sub binary64 (at v i) (mul binary64 c (at q i))

-- v - (q · v) q
unfoldable pub stripped : Float → List Float → List Float → List Float
stripped z q v = tabulate (less_at (dot_of z q v) q v) (length v)

-- one pass over the first k vectors of the basis
unfoldable pub pass_to : Float → List (List Float) → List Float → ℕ → List Float
pass_to z basis v zero = v
pass_to z basis v (suc k) = stripped z (get_or basis k []) (pass_to z basis v k)

-- two passes over the whole basis
unfoldable pub projected : Float → List (List Float) → List Float → List Float
projected z basis v = pass_to z basis (pass_to z basis v (length basis)) (length basis)

-- 1e-10: what is left of a vector has to be more than this part of it
abbrev pub drop_tolerance : Float
drop_tolerance = of_bits binary64 0x3DDB_7CDF_D9D7_BDBB

-- the basis takes v: its norm is not 0, and what projection leaves of it is more than 1e-10 of it
unfoldable pub taken : Float → List (List Float) → List Float → Bool
taken z basis v =
    not (eq (norm_of z v) plus_zero) && not (le (norm_of z (projected z basis v)) (mul binary64 drop_tolerance (norm_of z v)))

-- an entry of w / d
abbrev pub over_at : Float → List Float → ℕ → Float
over_at d w i = div binary64 (at w i) d

-- w over its norm
unfoldable pub unit : Float → List Float → List Float
unit z w = tabulate (over_at (norm_of z w) w) (length w)

-- the basis with what projection leaves of v, at length 1, where it takes v and has fewer than l vectors
unfoldable pub inserted : Float → ℕ → List (List Float) → List Float → List (List Float)
inserted z l basis v =
    pick (ltb (length basis) l && taken z basis v) (basis ++ (unit z (projected z basis v) ∷ [])) basis
