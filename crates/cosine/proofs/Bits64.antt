-- A double's bits and its size: of two doubles above zero the one with the larger bits is the larger, by cases on the exponents' fields.
use Prim.Native.Nat.{ℕ, suc, ◌+◌, ◌*◌, ◌/◌, ◌%◌, ◌^◌, ◌≤◌, ◌<◌}
use mathlib.Core.Path.{◌≡◌}
use native.Mathlib.Nat.{le_antisymm, lt_of_not-le, mul-le-mul, mul-le-mul_right, mod-lt, div-add-mod'}
use native.Mathlib.Decide.{dec_le}
use native.Mathlib.Omega.{arith}
use lib.Dec.{lit<}
use lib.Pow.{pow_mono}
use Rattle.cosine.specs.Cosine.{whole}
use Rattle.divisors.proofs.Upto.{div_grows}

pub whole_grows : (a b : ℕ) → a ≤ b → whole a ≤ whole b
whole_grows a b h = either (dec_le (b / 2 ^ 52) (a / 2 ^ 52))
  where
    lower : a % 2 ^ 52 < 2 ^ 52
    lower = mod-lt a (lit< tt)

    either : Dec (b / 2 ^ 52 ≤ a / 2 ^ 52) → whole a ≤ whole b
    either (yes g) =
        let e : a / 2 ^ 52 ≡ b / 2 ^ 52 = le_antisymm (div_grows (2 ^ 52) (lit< tt) h) g in
        let r : a % 2 ^ 52 + 2 ^ 52 ≤ b % 2 ^ 52 + 2 ^ 52 = omega (arith, div-add-mod' a (2 ^ 52), div-add-mod' b (2 ^ 52)) in
        rw e (mul-le-mul_right (2 ^ (b / 2 ^ 52)) r)
    either (no g) =
        let l : suc (a / 2 ^ 52) ≤ b / 2 ^ 52 = lt_of_not-le g in
        let one : a % 2 ^ 52 + 2 ^ 52 ≤ 2 ^ 52 * 2 = omega (arith, lower) in
        let two : 2 ^ 52 ≤ b % 2 ^ 52 + 2 ^ 52 = omega arith in
        go (a % 2 ^ 52 + 2 ^ 52) (b % 2 ^ 52 + 2 ^ 52) (a / 2 ^ 52) (b / 2 ^ 52) one two (pow_mono l)
      where
        go : (r s i j : ℕ) → r ≤ 2 ^ 52 * 2 → 2 ^ 52 ≤ s → 2 ^ suc i ≤ 2 ^ j → r * 2 ^ i ≤ s * 2 ^ j
        go r s i j hr hs h = omega (arith, mul-le-mul_right (2 ^ i) hr, mul-le-mul hs h)
