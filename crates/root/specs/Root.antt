-- IEEE 754's square root of binary64, correctly rounded: first the root of a natural number cut to a whole one, then the double
-- nearest to it.
use Rattle.std.specs.Prelude.{ℕ, zero, suc, ◌+◌, ◌*◌, ◌/◌, ◌^◌, true, false, cond, leb, eqb, Float}
use Rattle.std.specs.Float.{nan, inf, fin, binary64}
use Rattle.std.specs.Float.Ieee.{size, round}
use Rattle.ieee.specs.Units.{mag}

-- The largest r with r * r ≤ n, for n below 4 ^ d: the root of n / 4, doubled, and one more where that still fits.
unfoldable pub root_in : ℕ → ℕ → ℕ
root_in zero n = 0
root_in (suc d) n = let r = root_in d (n / 4) in cond (leb ((2 * r + 1) * (2 * r + 1)) n) (2 * r + 1) (2 * r)

-- The largest r with r * r ≤ n.
unfoldable pub floor_root : ℕ → ℕ
floor_root n = root_in (size n) n

-- 0 where n is r * r, and 1 where it is not: whether r is cut short of the root of n
abbrev pub sticky : ℕ → ℕ → ℕ
sticky n r = cond (eqb (r * r) n) 0 1

-- The value of binary64 nearest to the root of n / 2 ^ 1074, a tie to the even one.
-- With N = n * 4 ^ 54 that root is √N / 2 ^ (537 + 54), and √N has at least 55 binary digits before its point, two more than binary64
-- keeps.
-- So it rounds as the number 1/2 above its whole part does, or, where N is a square, as its whole part.
unfoldable pub root_of : ℕ → Float
root_of n = let r = floor_root (n * 4 ^ 54) in round binary64 false (2 * r + sticky (n * 4 ^ 54) r) (2 ^ (537 + 54 + 1))

-- The root of x. A zero, minus zero too, is its own root; what is below zero has none.
unfoldable pub sqrt_of : Float → Float
sqrt_of nan = nan
sqrt_of (inf false) = inf false
sqrt_of (inf true) = nan
sqrt_of (fin s zero e) = fin s zero e
sqrt_of (fin false (suc m) e) = root_of (mag binary64 (fin false (suc m) e))
sqrt_of (fin true (suc m) e) = nan
