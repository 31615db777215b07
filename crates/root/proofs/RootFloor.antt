-- `floor_root n` is the largest r with r * r ≤ n, and where twice it, with the sticky digit, lies.
use Prim.Native.Nat.{ℕ, zero, suc, ◌+◌, ◌*◌, ◌/◌, ◌^◌, ◌≤◌, ◌<◌}
use native.Mathlib.Nat.{lt_of_lt_of_le, lt_of_le_of_lt, lt_of_not-le, not-le_of_lt, mul-le-mul, pow-le-pow_left}
use native.Mathlib.Omega.{arith}
use mathlib.Core.Path.{◌≡◌}
use mathlib.Core.Bool.{Bool, true, false, not, cond}
use lib.Dec.{T, leb, eqb, leb→le, nleb→lt, eqb→eq, lit≤}
use lib.Ieee.{size}
use lib.Ieee.Digits.{size-lt}
use Rattle.root.specs.Root.{root_in, floor_root, sticky}

in_le : (d n : ℕ) → root_in d n * root_in d n ≤ n
unfolding root_in
in_le zero n = omega arith
in_le (suc d) n = go (root_in d (n / 4)) (in_le d (n / 4)) (leb ((2 * root_in d (n / 4) + 1) * (2 * root_in d (n / 4) + 1)) n) (leb→le _ n)
  where
    go : (r : ℕ) → r * r ≤ n / 4 → (b : Bool) → (T b → (2 * r + 1) * (2 * r + 1) ≤ n) → cond b (2 * r + 1) (2 * r) * cond b (2 * r + 1) (2 * r) ≤ n
    go r h true l = l tt
    go r h false l = omega arith

in_lt : (d n : ℕ) → n < 4 ^ d → n < (root_in d n + 1) * (root_in d n + 1)
unfolding root_in
in_lt zero n h = omega arith
in_lt (suc d) n h = go (root_in d (n / 4)) (in_lt d (n / 4) quarter) (leb ((2 * root_in d (n / 4) + 1) * (2 * root_in d (n / 4) + 1)) n) (nleb→lt _ n)
  where
    quarter : n / 4 < 4 ^ d
    quarter = omega arith

    go : (r : ℕ) → n / 4 < (r + 1) * (r + 1) → (b : Bool) → (T (not b) → n < (2 * r + 1) * (2 * r + 1))
        → n < (cond b (2 * r + 1) (2 * r) + 1) * (cond b (2 * r + 1) (2 * r) + 1)
    go r h true l = omega arith
    go r h false l = l tt

pub floor_le : (n : ℕ) → floor_root n * floor_root n ≤ n
unfolding floor_root
floor_le n = in_le (size n) n

pub floor_lt : (n : ℕ) → n < (floor_root n + 1) * (floor_root n + 1)
unfolding floor_root
floor_lt n = in_lt (size n) n (lt_of_lt_of_le (size-lt n) (pow-le-pow_left (lit≤ tt) (size n)))

-- a smaller square has a smaller root
pub sq-lt : (a b : ℕ) → a * a < b * b → a < b
sq-lt a b h = lt_of_not-le (λ (g : b ≤ a). not-le_of_lt h (mul-le-mul g g))

sq-le : (a r n : ℕ) → a * a ≤ n → n < (r + 1) * (r + 1) → a ≤ r
sq-le a r n h l = let p : a < r + 1 = sq-lt a (r + 1) (lt_of_le_of_lt h l) in omega arith

-- twice the root, with the sticky digit
abbrev pub halves : ℕ → ℕ
halves n = 2 * floor_root n + sticky n (floor_root n)

pub halves_gt : (n a : ℕ) → a * a < n → 2 * a < halves n
halves_gt n a h = go (floor_root n) (floor_lt n) (eqb (floor_root n * floor_root n) n) (eqb→eq _ n)
  where
    go : (r : ℕ) → n < (r + 1) * (r + 1) → (b : Bool) → (T b → r * r ≡ n) → 2 * a < 2 * r + cond b 0 1
    go r l true e = let p : a < r = sq-lt a r (rw (e tt) h) in omega arith
    go r l false e = let p : a < r + 1 = sq-lt a (r + 1) (omega arith) in omega arith

sticky-le : (b : Bool) → cond b 0 1 ≤ 1
sticky-le true = omega arith
sticky-le false = omega arith

pub halves_ge : (n a : ℕ) → a * a ≤ n → 2 * a ≤ halves n
halves_ge n a h = let p = sq-le a (floor_root n) n h (floor_lt n) in omega arith

pub halves_lt : (n b : ℕ) → n < b * b → halves n < 2 * b
halves_lt n b h =
    let p : floor_root n < b = sq-lt (floor_root n) b (lt_of_le_of_lt (floor_le n) h) in
    let s = sticky-le (eqb (floor_root n * floor_root n) n) in
    omega arith
