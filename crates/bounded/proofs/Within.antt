-- Values of at most so many units, their products and their running sums; and the two sizes of vectors that a walk projects.
use mathlib.Core.Path.{◌≡◌, sym, ap, ◌∙◌}
use Prim.Native.Nat.{◌/◌, ℕ, zero, suc, ◌+◌, ◌-◌, ◌*◌, ◌^◌, ◌≤◌, ◌<◌}
use native.Mathlib.Nat.{zero-div, le_refl, le_trans, le_of_eq, le-suc, lt-suc_self, lt_of_le_of_lt, mul-le-mul}
use native.Mathlib.Nat.{mul-le-mul_right, mul-pos, mul_assoc, one-mul, zero-mul, suc-mul, add-le-add}
use native.Mathlib.Omega.{arith}
use mathlib.Core.Bool.{Bool, true, false, cond, beq}
use lib.Dec.{T, ltb, lit<}
use lib.Pow.{pow_pos}
use lib.Ieee.{nan, inf, fin, up, down, Float, Format, binary32, binary64, prec, low, add, mul}
use lib.Ieee.Fits.{add-fits, mul-fits}
use lib.Ieee.Scale.{grid, overflow}
use Rattle.seq.specs.Sums.{sum_from}
use Rattle.ieee.specs.Units.{sign, mag}
use Rattle.ieee.specs.Flat.{is_zero}
use Rattle.ieee.specs.Pass.{sum_up}
use Rattle.ieee.proofs.Grid.{grid-le}
use Rattle.ieee.proofs.Ops.{Finite, inside_finite, rnd, rnd-exact, rnd_mono, under_cap}
use Rattle.ieee.proofs.Signs.{nought-finite, mag-nought}
use Rattle.ieee.proofs.Sums.{Size, sum-size, grown}
use Rattle.ieee.proofs.Products.{mul-units}
use Rattle.ieee.proofs.SignedSums.{sum_size, add_rounded}

-- x is finite and at most n units
pub record Within (f : Format) (n : ℕ) (x : Float) : Type 0 where
  pub ends : Finite f x
  pub most : mag f x ≤ n

few : (f : Format) → 1 < 2 ^ prec f
few binary32 = lit< tt
few binary64 = lit< tt

-- a product of values of at most 2 ^ i and 2 ^ j units
pub mul_within : {f : Format} {x y : Float} (i j p : ℕ) → 2 ^ i * 2 ^ j ≤ 2 ^ p * 2 ^ low f → 2 ^ p < overflow f → Within f (2 ^ i) x
    → Within f (2 ^ j) y → Within f (2 ^ p) (mul f x y)
mul_within {f} {x} {y} i j p e o a b =
    let K = 2 ^ low f in
    let r = mul-units a.ends b.ends in
    let X = mag f x in
    let Y = mag f y in
    let h : X * Y * K ≤ 2 ^ p * (K * K) = le_trans (mul-le-mul_right K (le_trans (mul-le-mul a.most b.most) e)) (le_of_eq (mul_assoc (2 ^ p) K K)) in
    let w : rnd f (2 ^ p) ≡ 2 ^ p = ap (rnd f) (sym (one-mul (2 ^ p))) ∙ rnd-exact f 1 p (few f)
    (lt_of_le_of_lt (le_of_eq (one-mul (2 ^ p))) o) ∙ one-mul (2 ^ p) in
    let m : mag f (mul f x y) ≤ 2 ^ p =
    under_cap (overflow f) (2 ^ p) (grid f (X * Y) (K * K)) (mag f (mul f x y))
    (le_trans (grid-le f (X * Y) (K * K) (2 ^ p) K (mul-pos (pow_pos (low f)) (pow_pos (low f))) (pow_pos (low f)) h) (le_of_eq w)) r.size_is in
    record { ends = inside_finite (record { held = mul-fits f x y; num = r.number }) (lt_of_le_of_lt m o); most = m }

pub size-le : (s t : Bool) (x y : ℕ) → sum_size s x t y ≤ x + y
size-le s t x y = go (beq s t) (ltb x y)
  where
    go : (u v : Bool) → cond u (x + y) (cond v (y - x) (x - y)) ≤ x + y
    go true v = le_refl (x + y)
    go false true = omega arith
    go false false = omega arith

-- k terms of either sign, of at most 2 ^ p units each, sum to at most k * 2 ^ p units
pub sum_within : (f : Format) (v : ℕ → Float) (p k : ℕ) → ((j : ℕ) → j < k → Within f (2 ^ p) (v j)) → k < 2 ^ prec f → k * 2 ^ p < overflow f
    → Within f (k * 2 ^ p) (sum_up f v k)
unfolding sum_from
sum_within f v p zero h few o = record { ends = nought-finite f false; most = le_of_eq (mag-nought f false ∙ sym (zero-mul (2 ^ p))) }
sum_within f v p (suc k) h few o =
    let less : k * 2 ^ p ≤ suc k * 2 ^ p = mul-le-mul_right (2 ^ p) (le-suc k) in
    let ih = sum_within f v p k (λ j l. h j (le_trans l (le-suc k))) (le_trans (le-suc (suc k)) few) (lt_of_le_of_lt less o) in
    let t = h k (lt-suc_self k) in
    let r = add_rounded ih.ends t.ends in
    let S = sum_up f v k in
    let b : mag f (add f S (v k)) ≤ suc k * 2 ^ p =
    under_cap (overflow f) (suc k * 2 ^ p) (rnd f (sum_size (sign S) (mag f S) (sign (v k)) (mag f (v k)))) (mag f (add f S (v k)))
    (le_trans (rnd_mono f (le_trans (size-le (sign S) (sign (v k)) (mag f S) (mag f (v k)))
    (le_trans (add-le-add ih.most t.most) (le_of_eq (sym (suc-mul k (2 ^ p))))))) (le_of_eq (rnd-exact f (suc k) p few o)))
    r.size_is in
    record { ends = inside_finite (record { held = add-fits f S (v k); num = r.number }) (lt_of_le_of_lt b o); most = b }

-- one more term that is not negative, and the sum is no smaller
pub sum_grows : (f : Format) (v : ℕ → Float) (k : ℕ) → ((j : ℕ) → j < suc k → Size f (v j)) → mag f (sum_up f v k) ≤ mag f (sum_up f v (suc k))
unfolding sum_from
sum_grows f v k h = (grown (sum-size f v k (λ j l. h j (le_trans l (le-suc k)))) (h k (lt-suc_self k))).left

-- ---- a zero has no units

nil : (a b : ℕ) → 0 * a * b ≡ 0
nil a b = omega arith

pub no_units : (x : Float) → T (is_zero x) → mag binary64 x ≡ 0
no_units nan t = absurd t
no_units (inf s) t = absurd t
no_units (fin s zero e) t = ap (λ (n : ℕ). n / down e) (nil (up e) (2 ^ low binary64)) ∙ zero-div (down e)
no_units (fin s (suc m) e) t = absurd t

-- ---- exact sums over whole numbers

-- h 0 + .. + h (k - 1)
unfoldable pub total : (ℕ → ℕ) → ℕ → ℕ
total h zero = 0
total h (suc k) = total h k + h k

-- ---- the vectors

-- 1.0 in units
abbrev pub K : ℕ
K = 2 ^ low binary64

-- the vectors that are projected: drawn directions, and rows
pub data Kind : Type 0 where
  drawn : Kind
  row : Kind

-- their entries stay within 2 ^ 9, and within 2 ^ 40
abbrev pub bits : Kind → ℕ
bits drawn = 9
bits row = 40

-- the sum of squares of one that is no longer may grow by so much, for rounding
abbrev pub grain : Kind → ℕ
grain drawn = 4 * (K * K)
grain row = 2 ^ 64 * (K * K)

-- each of k entries is at most 2 ^ b
pub record Vec (b k : ℕ) (v : ℕ → Float) : Type 0 where
  pub each : (j : ℕ) → j < k → Within binary64 (2 ^ (1074 + b)) (v j)

pub fewer : {b k : ℕ} {v : ℕ → Float} → Vec b (suc k) v → Vec b k v
fewer {b} {k} p = record { each = λ j l. p.each j (le_trans l (le-suc k)) }
