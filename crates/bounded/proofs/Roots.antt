-- The root of a double, correctly rounded, has the double as its square but for an eighth.
use mathlib.Core.Path.{◌≡◌, refl, sym, ap, subst}
use Prim.Native.Nat.{ℕ, zero, suc, ◌+◌, ◌*◌, ◌^◌, ◌≤◌, ◌<◌, min}
use native.Mathlib.Nat.{le_trans, le_of_eq, le_of_lt, lt_of_le_of_lt, mul-le-mul_right, le_of_mul-le-mul_right, mul-pos}
use native.Mathlib.Decide.{dec_le}
use native.Mathlib.Omega.{arith}
use mathlib.Core.Bool.{Bool, true, false, cond, true≢false}
use lib.Dec.{eqb, lit≤, lit<}
use lib.Pow.{pow_pos}
use lib.Ieee.{Float, nan, inf, fin, binary64, low, round}
use lib.Ieee.Fits.{round-fits}
use lib.Ieee.Scale.{grid, overflow}
use Rattle.ieee.specs.Units.{mag}
use Rattle.ieee.proofs.Grid.{rounded}
use Rattle.ieee.proofs.Ops.{inside_finite, Positive}
use Rattle.reaching.specs.Whole.{Near}
use Rattle.reaching.proofs.Near.{near}
use Rattle.root.specs.Root.{floor_root, sticky, root_of, sqrt_of}
use Rattle.root.proofs.RootFloor.{floor_le, floor_lt}
use Rattle.bounded.proofs.Within.{K, no_units}
use Rattle.bounded.proofs.Squares.{squared}
use Rattle.bounded.proofs.Norm.{Root}

-- w is the whole root of n p, R is h K / c rounded, and c c is 4 p K
below_root : (n p w h R c k N : ℕ) → 64 ≤ N → 64 ≤ w → n * p < (w + 1) * (w + 1) → 2 * w ≤ h → h * k * N ≤ R * c * N + h * k → c * c ≡ 4 * p * k
    → 0 < p → 0 < k → 7 * (n * k) ≤ 8 * (R * R)
below_root n p w h R c k N n64 w64 above twice rounding cc P0 K0 =
    let a : 63 * (h * k) ≤ 64 * (R * c) = le_of_mul-le-mul_right
    (let m = mul-le-mul_right (h * k) n64 in let y : 63 * (h * k) * N ≤ 64 * (R * c) * N = omega arith in y) (let z : 0 < N = omega arith in z) in
    let b : 126 * w * k ≤ 64 * (R * c) = let m = mul-le-mul_right k twice in omega arith in
    let s = squared (126 * w * k) (64 * (R * c)) b in
    let t = squared (64 * (w + 1)) (65 * w) (let z : 64 * (w + 1) ≤ 65 * w = omega arith in z) in
    let u : 4096 * (n * p) ≤ 4225 * (w * w) = omega arith in
    let v = mul-le-mul_right (15876 * (k * k)) u in
    let e = ap (λ (z : ℕ). 4096 * (R * R) * z) cc in
    le_of_mul-le-mul_right (let y : 7 * (n * k) * (p * k) ≤ 8 * (R * R) * (p * k) = omega arith in y) (mul-pos P0 K0)

above_root : (n p w h R c k N : ℕ) → 64 ≤ N → 64 ≤ w → w * w ≤ n * p → h ≤ 2 * w + 1 → R * c * N ≤ h * k * N + h * k → c * c ≡ 4 * p * k → 0 < p
    → 0 < k → 7 * (R * R) ≤ 8 * (n * k)
above_root n p w h R c k N n64 w64 below twice rounding cc P0 K0 =
    let a : 64 * (R * c) ≤ 65 * (h * k) = le_of_mul-le-mul_right
    (let m = mul-le-mul_right (h * k) n64 in let y : 64 * (R * c) * N ≤ 65 * (h * k) * N = omega arith in y) (let z : 0 < N = omega arith in z) in
    let g : 64 * h ≤ 129 * w = omega arith in
    let b : 4096 * (R * c) ≤ 8385 * (w * k) = let m = mul-le-mul_right k g in omega arith in
    let s = squared (4096 * (R * c)) (8385 * (w * k)) b in
    let v = mul-le-mul_right (k * k) below in
    let e = ap (λ (z : ℕ). 16777216 * (R * R) * z) cc in
    le_of_mul-le-mul_right (let y : 7 * (R * R) * (p * k) ≤ 8 * (n * k) * (p * k) = omega arith in y) (mul-pos P0 K0)

large_root : (n w : ℕ) → 0 < n → n * 4 ^ 54 < (w + 1) * (w + 1) → 64 ≤ w
large_root n w P h = go (dec_le 64 w)
  where
    go : Dec (64 ≤ w) → 64 ≤ w
    go (yes l) = l
    go (no l) = let s = squared (w + 1) 64 (let z : w + 1 ≤ 64 = omega arith in z) in let z : ⊥ = omega arith in absurd z

-- no overflow
inside : (R n m k o : ℕ) → 7 * (R * R) ≤ 8 * (n * k) → n ≤ m → 8 * (m * k) < 7 * (o * o) → R < o
inside R n m k o h l g = go (dec_le o R)
  where
    go : Dec (o ≤ R) → R < o
    go (yes b) = let s = squared o R b in let u = mul-le-mul_right k l in let z : ⊥ = omega arith in absurd z
    go (no b) = omega arith

short : (o n m : ℕ) → n < o → m ≡ min o n → m ≡ n
short o n m h e = omega arith

some : (n k R : ℕ) → 0 < n * k → 7 * (n * k) ≤ 8 * (R * R) → 0 < R
some n k zero P h = absurd (let z : ⊥ = omega arith in z)
some n k (suc R) P h = omega arith

pub record Rooted (d r : Float) : Type 0 where
  pub root : Root d r
  pub not_above : 7 * (mag binary64 r * mag binary64 r) ≤ 8 * (mag binary64 d * K)

none : (n : ℕ) → 0 < n → n ≡ 0 → ⊥
none n h e = omega arith

pub rooted : (d : Float) (w h : ℕ) → 0 < mag binary64 d → mag binary64 d ≤ K * 2 ^ 1024 → w * w ≤ mag binary64 d * 4 ^ 54
    → mag binary64 d * 4 ^ 54 < (w + 1) * (w + 1) → 2 * w ≤ h → h ≤ 2 * w + 1
    → Rooted d (round binary64 false h (2 ^ 592))
rooted d w h D0 Dm below above two more =
    let f = binary64 in
    let n = mag f d in
    let c = 2 ^ 592 in
    let r = round f false h c in
    let g = grid f h c in
    let w64 = large_root n w D0 above in
    let near_it : Near (2 ^ 53) (h * K) c g = near f h c (pow_pos 592) (le_trans (lit≤ tt) (mul-le-mul_right K (let z : 1 ≤ h = omega arith in z))) in
    let lo : 7 * (n * K) ≤ 8 * (g * g) = below_root n (4 ^ 54) w h g c K (2 ^ 53) (lit≤ tt) w64 above two near_it.under refl (lit< tt) (lit< tt) in
    let hi : 7 * (g * g) ≤ 8 * (n * K) = above_root n (4 ^ 54) w h g c K (2 ^ 53) (lit≤ tt) w64 below more near_it.above refl (lit< tt) (lit< tt) in
    let o : g < 2 ^ 2090 = inside g n (K * 2 ^ 1024) K (2 ^ 2090) hi Dm (lit< tt) in
    let R = rounded f false h c in
    let G0 : 0 < g = some n K g (mul-pos D0 (pow_pos (low f))) lo in
    let fine : g < overflow f = lt_of_le_of_lt (le_of_lt o) (lit< tt) in
    let e : mag f r ≡ g = short (overflow f) g (mag f r) fine R.size_is in
    record {
      root = record {
        positive =
            record {
              fin = inside_finite (record { held = round-fits f false h c; num = R.number })
                  (lt_of_le_of_lt (le_of_eq e) fine);
              plus = R.signed;
              some = subst (λ (z : ℕ). 0 < z) (sym e) G0;
            };
        near_enough = subst (λ (z : ℕ). 7 * (n * K) ≤ 8 * (z * z)) (sym e) lo;
      };
      not_above = subst (λ (z : ℕ). 7 * (z * z) ≤ 8 * (n * K)) (sym e) hi;
    }

sticky-most : (b : Bool) → cond b 0 1 ≤ 1
sticky-most true = omega arith
sticky-most false = omega arith

-- the root that the walk takes, of a double above 0
pub sqrt_rooted : (d : Float) → Positive binary64 d → mag binary64 d ≤ K * 2 ^ 1024 → Rooted d (sqrt_of d)
unfolding sqrt_of root_of
sqrt_rooted nan p h = absurd p.fin.ends
sqrt_rooted (inf s) p h = absurd p.fin.ends
sqrt_rooted (fin true m e) p h = absurd (true≢false p.plus)
sqrt_rooted (fin false zero e) p h = absurd (none (mag binary64 (fin false zero e)) p.some (no_units (fin false zero e) tt))
sqrt_rooted (fin false (suc m) e) p h =
    let d = fin false (suc m) e in
    let n = mag binary64 d * 4 ^ 54 in
    let w = floor_root n in
    rooted d w (2 * w + sticky n w) p.some h (floor_le n) (floor_lt n) (let g : 2 * w ≤ 2 * w + sticky n w = omega arith in g)
    (let s : sticky n w ≤ 1 = sticky-most (eqb (w * w) n) in let g : 2 * w + sticky n w ≤ 2 * w + 1 = omega arith in g)
