-- A difference of whole numbers, taken in doubles with 2 ^ 51 added to it, is the definition's quotient with its sign;
-- and of the last sums it is the cosine.
use Prim.Native.Nat.{ℕ, zero, suc, ◌+◌, ◌-◌, ◌*◌, ◌^◌, ◌≤◌, ◌<◌, min}
use mathlib.Core.Bool.{Bool, true, false, not, cond}
use mathlib.Core.Path.{◌≡◌, refl, sym, ap, ◌∙◌}
use mathlib.Core.Logic.{◌⊎◌, ⊎_elim}
use native.Mathlib.Nat.{mul-le-mul_right, min-le_right}
use native.Mathlib.Omega.{arith}
use borrow.Author.Tests.{lt-ltb, le-ltb}
use lib.Dec.{T, leb, ltb, lit<, leb→le, nleb→lt}
use lib.IntN.{pos}
use lib.Ieee.{Format, Float, nan, inf, fin, binary64, up, down, low, emax, prec, neg, sub, add, sum, div, of_int, odd, units, round}
use lib.Ieee.Exact.{HasValue}
use lib.Ieee.Scale.{round_same}
use lib.Ieee.Back.{round_whole}
use lib.Ieee.Fits.{down_pos}
use Rattle.terms.specs.declared.CosTerms.{CosTerms}
use Rattle.terms.specs.Turns.{CosAt}
use Rattle.cosine.specs.Cosine.{unit_of, signed, square, cosine_of}
use Rattle.cosine.specs.Differences.{difference_of}

-- rounding is the same on both sides of zero
odd-neg : (d q k l : ℕ) → neg (odd d false q k l) ≡ odd d true q k l
unfolding neg odd
odd-neg d zero k l = refl
odd-neg d (suc q) k l = refl

units-neg : (f : Format) (q k : ℕ) → neg (units f false q k) ≡ units f true q k
unfolding neg units
units-neg f q k = go (ltb (q * 2 ^ k) (2 ^ (low f + suc (emax f))))
  where
    go : (t : Bool) → neg (cond t (odd (suc (prec f)) false q k (low f)) (inf false)) ≡ cond t (odd (suc (prec f)) true q k (low f)) (inf true)
    go true = odd-neg (suc (prec f)) q k (low f)
    go false = refl

round-neg : (f : Format) (n d : ℕ) → neg (round f false n d) ≡ round f true n d
unfolding round
round-neg f n d = units-neg f _ _

abbrev full : Float
full = fin false 1 (pos 51)

-- (2 ^ 51 + x) - 2 ^ 51 and (2 ^ 51 - x) - 2 ^ 51
up_from : (x : ℕ) → x ≤ 2 ^ 51 → sub binary64 (of_int binary64 (pos (2 ^ 51 + x))) full ≡ of_int binary64 (pos x)
unfolding sub add neg sum of_int
up_from x h = go (round binary64 false (2 ^ 51 + x) 1) (round_whole binary64 false (2 ^ 51 + x) (omega arith))
  where
    go : (y : Float) → HasValue y false (2 ^ 51 + x) 1 → sub binary64 y full ≡ round binary64 false x 1
    go nan v = absurd v
    go (inf t) v = absurd v
    go (fin t m e) v =
        rw (v.0, le-ltb (m * up e * 1) (1 * 2 ^ 51 * down e) (omega (arith, v.1)))
        (round_same binary64 false (m * up e * 1 - 1 * 2 ^ 51 * down e) (down e * 1) x 1 (omega (arith, down_pos e)) (lit< tt) (omega (arith, v.1)))

down-from : (x : ℕ) → 0 < x → x ≤ 2 ^ 51 → sub binary64 (of_int binary64 (pos (2 ^ 51 - x))) full ≡ neg (of_int binary64 (pos x))
unfolding sub add neg sum of_int
down-from x p h = go (2 ^ 51 - x) (omega arith) (round binary64 false (2 ^ 51 - x) 1)
    (round_whole binary64 false (2 ^ 51 - x) (omega arith)) ∙ sym (round-neg binary64 x 1)
  where
    go : (w : ℕ) → w + x ≡ 2 ^ 51 → (y : Float) → HasValue y false w 1 → sub binary64 y full ≡ round binary64 true x 1
    go w g nan v = absurd v
    go w g (inf t) v = absurd v
    go w g (fin t m e) v =
        let wide : (w + x) * down e ≡ 2 ^ 51 * down e = ap (λ (z : ℕ). z * down e) g in
        let more : 1 * down e ≤ x * down e = mul-le-mul_right (down e) p in
        rw (v.0, lt-ltb (m * up e * 1) (1 * 2 ^ 51 * down e) (omega (arith, v.1, down_pos e)))
        (round_same binary64 true (1 * 2 ^ 51 * down e - m * up e * 1) (down e * 1) x 1 (omega (arith, down_pos e)) (lit< tt) (omega (arith, v.1)))

neg-over : (x : ℕ) → x ≤ 2 ^ 51 → div binary64 (neg (of_int binary64 (pos x))) full ≡ neg (unit_of x)
unfolding div neg of_int
neg-over x h = go (round binary64 false x 1) (round_whole binary64 false x (omega arith))
  where
    go : (y : Float) → HasValue y false x 1 → div binary64 (neg y) full ≡ neg (div binary64 y full)
    go nan v = absurd v
    go (inf t) v = absurd v
    go (fin t m e) v = rw v.0 (sym (round-neg binary64 (m * up e * 1) (1 * 2 ^ 51 * down e)))

-- the difference v - 2 ^ 51, where v is p - m + 2 ^ 51, cut to 0 and 2 ^ 52
pub difference : (p m v : ℕ) → v ≡ min (p + 2 ^ 51 - m) (2 ^ 52)
    → div binary64 (sub binary64 (of_int binary64 (pos v)) full) full ≡ difference_of p m
difference p m v e = go (leb m p) (leb→le m p) (nleb→lt m p)
  where
    go : (t : Bool) → (T t → m ≤ p) → (T (not t) → p < m)
        → div binary64 (sub binary64 (of_int binary64 (pos v)) full) full ≡ signed (not t) (unit_of (cond t (min (p - m) (2 ^ 51)) (min (m - p) (2 ^ 51))))
    go true y n =
        let l = y tt in
        let x = min (p - m) (2 ^ 51) in
        let f : v ≡ 2 ^ 51 + x = omega arith in
        rw (f, up_from x (min-le_right (p - m) (2 ^ 51)))
    go false y n =
        let l = n tt in
        let x = min (m - p) (2 ^ 51) in
        let f : v ≡ 2 ^ 51 - x = omega arith in
        rw (f, down-from x (omega arith) (min-le_right (m - p) (2 ^ 51))) (neg-over x (min-le_right (m - p) (2 ^ 51)))

-- and v is what the two choices leave
pub kept : (p m a v : ℕ) → ((m < p + 2 ^ 51) × (a ≡ p + 2 ^ 51 - m)) ⊎ ((p + 2 ^ 51 ≤ m) × (a ≡ 0)) → ((a < 2 ^ 52) × (v ≡ a)) ⊎ ((2 ^ 52 ≤ a) × (v ≡ 2 ^ 52))
    → v ≡ min (p + 2 ^ 51 - m) (2 ^ 52)
kept p m a v f s = cut (⊎_elim (λ w. w.1) (λ w. omega (arith, w.0, w.1)) f) s
  where
    cut : a ≡ p + 2 ^ 51 - m → ((a < 2 ^ 52) × (v ≡ a)) ⊎ ((2 ^ 52 ≤ a) × (v ≡ 2 ^ 52)) → v ≡ min (p + 2 ^ 51 - m) (2 ^ 52)
    cut e g = ⊎_elim (λ w. omega (arith, w.0, w.1, e)) (λ w. omega (arith, w.0, w.1, e)) g

-- the difference of the last sums is the cosine of the double with the bits b
pub unit_is : {s : CosTerms} {r : Float} (b : ℕ) → CosAt (square b) 20 s
    → r ≡ difference_of s.plus s.minus → r ≡ cosine_of b
unfolding cosine_of
unit_is b a h = h ∙ rw (a.plus_is, a.minus_is)
