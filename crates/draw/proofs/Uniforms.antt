-- The uniform draw. Edition 1 lies from 2 ^ -54 up and at most at 1: each of its operations keeps the order, and the ends are computed.
-- Edition 2 is exact, an odd multiple of 2 ^ -53, and so lies strictly between 0 and 1.
use Rattle.std.proofs.Common.{◌≡◌, ℕ, ◌+◌, ◌-◌, ◌*◌, ◌/◌, ◌^◌, ◌<◌, ◌≤◌, Bool, true, false, cond, T, eqb, pos, negsuc, sym, refl, subst, le_trans, lt_of_lt_of_le, le_of_lt, mul-le-mul_right, mul_assoc, mul-lt-mul_of_pos_right, mul-pos, arith, lit<, lit≤, lt→ltb, pow_pos, pow_mono, shl_lt}
use lib.Ieee.{Float, nan, inf, fin, binary64, up, down, add, div, sum, of_int, round, le, lt, fits}
use lib.Ieee.Exact.{HasValue, round_exact}
use lib.Ieee.Scale.{round_same}
use lib.Ieee.Back.{round_whole}
use lib.Ieee.Fits.{down_pos, div-fits}
use lib.Ieee.Order.{round_mono}
use lib.Ieee.Positive.{positive, between, le→cross}
use Rattle.ieee.specs.Units.{sign, mag}
use Rattle.ieee.proofs.Grid.{mag_of_value, sign_of_value}
use Rattle.ieee.proofs.Ops.{finite_number}
use Rattle.ieee.proofs.Ranks.{Number, mag→le, lt_is}
use Rattle.ieee.proofs.Signs.{nought}
use Rattle.root.proofs.RootResults.{finite_of_value}
use Rattle.draw.specs.declared.SplitMix64.{SplitMix64}
use Rattle.draw.specs.SplitMix.{output_of}
use Rattle.draw.specs.Uniform.{uniform_at, uniform_of, uniform_in}
use Rattle.draw.specs.Drawn.{least, one, Drawn}
use Rattle.draw.proofs.Outputs.{output-lt}
use Rattle.draw.proofs.Values.{over-power, spread_value}

abbrev half : Float
half = fin false 1 (negsuc 0)

abbrev most : Float
most = fin false 1 (pos 53)

-- n + 0.5 is (2n + 1) / 2, rounded
half-more : (n : ℕ) → n ≤ 2 ^ 53 → add binary64 (of_int binary64 (pos n)) half ≡ round binary64 false (2 * n + 1) 2
unfolding add sum of_int
half-more n h = go (round binary64 false n 1) (round_whole binary64 false n h)
  where
    go : (x : Float) → HasValue x false n 1 → add binary64 x half ≡ round binary64 false (2 * n + 1) 2
    go nan v = absurd v
    go (inf t) v = absurd v
    go (fin t m e) v =
        rw v.0
        (round_same binary64 false (m * up e * 2 + 1 * 1 * down e) (down e * 2) (2 * n + 1) 2 (mul-pos (down_pos e) (lit< tt)) (lit< tt)
        (cross (m * up e) (down e) n v.1))
      where
        cross : (a d n : ℕ) → a * 1 ≡ n * d → (a * 2 + 1 * 1 * d) * 2 ≡ (2 * n + 1) * (d * 2)
        cross a d n h = omega arith

fits-at : (d n : ℕ) → T (fits binary64 (uniform_at d n))
unfolding uniform_at
fits-at d n = div-fits binary64 (add binary64 (of_int binary64 (pos n)) half) (fin false 1 (pos d))

-- ---- edition 1: a half or more, and at most 2 ^ 53, over 2 ^ 53
over : (x : Float) → T (positive x) → T (le half x) → T (le x most) → T (le least (div binary64 x most)) × T (le (div binary64 x most) one)
unfolding div round
over nan p l h = absurd p
over (inf t) p l h = absurd p
over (fin true m e) p l h = absurd p
over (fin false m e) p l h =
    let lower : 1 * 1 * down e ≤ m * up e * 2 = le→cross half (fin false m e) tt p l in
    let upper : m * up e * 1 ≤ 1 * 2 ^ 53 * down e = le→cross (fin false m e) most p tt h in
    let d_pos : 0 < 1 * 2 ^ 53 * down e = mul-pos (lit< tt) (down_pos e) in (
      round_mono binary64 1 (2 ^ 54) (m * up e * 1) (1 * 2 ^ 53 * down e) (lit< tt) d_pos (omega arith),
      round_mono binary64 (m * up e * 1) (1 * 2 ^ 53 * down e) 1 1 d_pos (lit< tt) (omega arith),
    )

range : (n : ℕ) → n < 2 ^ 53 → T (le least (uniform_at 53 n)) × T (le (uniform_at 53 n) one)
unfolding uniform_at round
range n h =
    let s = round binary64 false (2 * n + 1) 2 in
    let lo : T (le half s) = round_mono binary64 1 2 (2 * n + 1) 2 (lit< tt) (lit< tt) (omega arith) in
    let hi : T (le s most) = round_mono binary64 (2 * n + 1) 2 (2 ^ 54 - 1) 2 (lit< tt) (lit< tt) (omega arith) in
    rw (half-more n (le_of_lt h)) (over s (between half s most tt tt lo hi) lo hi)

first-drawn : (n : ℕ) → n < 2 ^ 53 → Drawn (uniform_at 53 n)
first-drawn n h = record { held = fits-at 53 n; from = (range n h).0; upto = (range n h).1 }

-- ---- edition 2: the sum is exact, and the quotient too
pub sum-exact : (n : ℕ) → n < 2 ^ 52 → HasValue (add binary64 (of_int binary64 (pos n)) half) false (2 * n + 1) 2
sum-exact n h =
    let w : 2 * n + 1 < 2 ^ 53 = omega arith in
    rw (half-more n (omega arith))
    (round_exact binary64 false (2 * n + 1) 2 (2 * n + 1) 1073 (lit< tt) w
    (lt_of_lt_of_le (shl_lt 53 1073 w) (pow_mono {i = 53 + 1073} {j = 1074 + 1024} (lit≤ tt))) (sym (mul_assoc (2 * n + 1) (2 ^ 1073) 2)))

-- u is an odd multiple of 2 ^ -53
pub odd_multiple : (n : ℕ) → n < 2 ^ 52 → HasValue (uniform_at 52 n) false (2 * n + 1) (2 ^ 53)
unfolding uniform_at
odd_multiple n h = over-power 1 52 (2 * n + 1) (add binary64 (of_int binary64 (pos n)) half) (lit≤ tt) (omega arith) (sum-exact n h)

module _ (n : ℕ) (h : n < 2 ^ 52) where
  abbrev u : Float
  u = uniform_at 52 n

  number : Number binary64 u
  number = finite_number (record { held = fits-at 52 n; ends = finite_of_value u false (2 * n + 1) (2 ^ 53) (odd_multiple n h) })

  plus : sign u ≡ false
  plus = sign_of_value u false (2 * n + 1) (2 ^ 53) (odd_multiple n h)

  in_units : mag binary64 u ≡ (2 * n + 1) * 2 ^ 1021
  in_units = mag_of_value binary64 u false ((2 * n + 1) * 2 ^ 1021) (spread_value (2 ^ 1021) u false (2 * n + 1) (2 ^ 53) (odd_multiple n h))

  above_zero : 2 ^ 1021 ≤ mag binary64 u
  above_zero = rw in_units (let a : 1 ≤ 2 * n + 1 = omega arith in mul-le-mul_right (2 ^ 1021) a)

  below_one : mag binary64 u < 2 ^ 1074
  below_one = rw in_units (let a : 2 * n + 1 < 2 ^ 53 = omega arith in mul-lt-mul_of_pos_right a (pow_pos 1021))

  second-drawn : Drawn u
  unfolding fits
  second-drawn = record {
    held = fits-at 52 n;
    from = mag→le {f = binary64} {x = least} (record { held = tt; num = tt }) number refl plus (le_trans (lit≤ tt) above_zero);
    upto = mag→le {f = binary64} {y = one} number (record { held = tt; num = tt }) plus refl (le_of_lt below_one);
  }

  inside : T (lt nought u) × T (lt u one)
  unfolding fits
  inside = (
    rw (lt_is binary64 nought u tt number.held tt number.num, plus) (lt→ltb 0 (mag binary64 u) (lt_of_lt_of_le (lit< tt) above_zero)),
    rw (lt_is binary64 u one number.held tt number.num tt, plus) (lt→ltb (mag binary64 u) (2 ^ 1074) below_one),
  )

-- ---- of an output, by the edition
pub output-drawn : (edition word : ℕ) → word < 2 ^ 64 → Drawn (uniform_of edition word)
unfolding uniform_of
output-drawn edition word h = go (eqb edition 2)
  where
    go : (t : Bool) → Drawn (uniform_at (cond t 52 53) (word / 2 ^ (64 - cond t 52 53)))
    go true = second-drawn (word / 2 ^ 12) (omega arith)
    go false = first-drawn (word / 2 ^ 11) (omega arith)

-- edition 2 lies strictly between 0 and 1, and so is never 1
pub strictly_inside : (word : ℕ) → word < 2 ^ 64 → T (lt nought (uniform_of 2 word)) × T (lt (uniform_of 2 word) one)
unfolding uniform_of
strictly_inside word h = inside (word / 2 ^ 12) (omega arith)

pub never_one : (word : ℕ) → word < 2 ^ 64 → uniform_of 2 word ≡ one → ⊥
unfolding lt
never_one word h e = subst (λ (u : Float). T (lt u one)) e (strictly_inside word h).1

-- ---- what a generator gives
pub generator_drawn : (rng : SplitMix64) → Drawn (uniform_in rng)
unfolding uniform_in
generator_drawn rng = output-drawn rng.edition (output_of rng) (output-lt rng)
