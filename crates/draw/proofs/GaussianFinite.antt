-- The Gaussian of every generator is finite, and at most 16 in size: the logarithm is above -64, so that the root is at most 16, and the cosine is at most 1.
use Rattle.std.proofs.Common.{◌≡◌, ℕ, zero, suc, ◌+◌, ◌*◌, ◌^◌, ◌<◌, ◌≤◌, Bool, true, false, not, T, eqb, ℤ, pos, sym, refl, true≢false, zero-le, le_trans, lt_of_lt_of_le, mul-le-mul_right, zero-lt-suc, mul_assoc, mul-le-mul, mul-pos, lt_of_not-le, zero-mul, arith, lit<, lit≤, eqb→eq, pow_pos, pow_mono, shl_lt}
use native.Mathlib.Nat.{zero-div}
use native.Mathlib.Decide.{dec_le}
use lib.Ieee.{Float, nan, inf, fin, binary64, up, down, unlike, neg, mul, round, of_int, to_bits, fits}
use lib.Ieee.Exact.{HasValue, round_exact}
use lib.Ieee.Fits.{up_pos, down_pos, mul-fits, div-fits, neg-fits}
use lib.Ieee.Scale.{finite, round_same}
use Rattle.ieee.proofs.Flat.{zero_times}
use Rattle.ieee.specs.Units.{mag}
use Rattle.ieee.proofs.Grid.{mag_of_value}
use Rattle.ieee.proofs.Ops.{Finite, mul_commutes}
use Rattle.ieee.proofs.Products.{mul-at-most, mul-finite}
use Rattle.root.specs.Root.{sqrt_of}
use Rattle.root.specs.Nearest.{NearestRoot, IsRoot}
use Rattle.root.proofs.RootResults.{finite_of_value}
use Rattle.root.proofs.RootNearest.{sqrt_is_root}
use Rattle.cosine.specs.Cosine.{size, negative, square, signed, unit_of, cosine_of, tau}
use Rattle.logarithm.specs.Logarithm.{depth, ln_of}
use Rattle.draw.specs.declared.SplitMix64.{SplitMix64}
use Rattle.draw.specs.SplitMix.{after_of}
use Rattle.draw.specs.Gaussian.{box_muller, gaussian_of}
use Rattle.draw.specs.Drawn.{Drawn}
use Rattle.draw.proofs.Values.{cosine_value, logarithm_value, size-le-one, spread_value}
use Rattle.draw.proofs.Uniforms.{generator_drawn}
use Rattle.draw.proofs.Bounds.{depth_small}

-- ---- -2 times a logarithm of y / 2 ^ 47 is y / 2 ^ 46
product : (t : Bool) (m : ℕ) (e : ℤ) → mul binary64 (neg (fin false 1 (pos 1))) (fin t m e) ≡ round binary64 (unlike true t) (1 * 2 * (m * up e)) (1 * down e)
unfolding mul neg
product t m e = refl

doubled : (l : Float) (s : Bool) (y : ℕ) → y < 2 ^ 53 → HasValue l s y (2 ^ 47)
    → HasValue (mul binary64 (neg (fin false 1 (pos 1))) l) (unlike true s) y (2 ^ 46)
doubled nan s y h v = absurd v
doubled (inf t) s y h v = absurd v
doubled (fin t m e) s y h v =
    rw (
      product t m e,
      v.0,
      round_same binary64 (unlike true s) (1 * 2 * (m * up e)) (1 * down e) y (2 ^ 46) (mul-pos (lit< tt) (down_pos e)) (pow_pos 46)
          (crossed (m * up e) (down e) y v.1),
    )
    (round_exact binary64 (unlike true s) y (2 ^ 46) y 1028 (pow_pos 46) h
    (lt_of_lt_of_le (shl_lt 53 1028 h) (pow_mono {i = 53 + 1028} {j = 1074 + 1024} (lit≤ tt)))
    (sym (mul_assoc y (2 ^ 1028) (2 ^ 46))))
  where
    crossed : (x d y : ℕ) → x * 2 ^ 47 ≡ y * d → 1 * 2 * x * 2 ^ 46 ≡ y * (1 * d)
    crossed x d y h = omega arith

-- ---- the root of what is below 128 is at most 16
too_far : (X z K : ℕ) → X < 128 * K → 16 * K < z → (16 * K + z) * (16 * K + z) < 4 * (X * K) → ⊥
too_far X z K h g l =
    let a : 32 * K * (32 * K) ≤ (16 * K + z) * (16 * K + z) = let k : 32 * K ≤ 16 * K + z = omega arith in mul-le-mul k k in
    let b : X * K ≤ 128 * K * K = mul-le-mul_right K (let k : X ≤ 128 * K = omega arith in k) in
    omega arith

-- finite, and at most 16 in size
pub record Small (x : Float) : Type 0 where
  pub ends : Finite binary64 x
  pub most : mag binary64 x ≤ 16 * 2 ^ 1074

nearest_small : (x r : Float) → mag binary64 x < 128 * 2 ^ 1074 → NearestRoot x r → Small r
unfolding fits
nearest_small x r h n = record { ends = record { held = n.held; ends = n.ends }; most = go (dec_le (mag binary64 r) (16 * 2 ^ 1074)) }
  where
    go : Dec (mag binary64 r ≤ 16 * 2 ^ 1074) → mag binary64 r ≤ 16 * 2 ^ 1074
    go (yes l) = l
    go (no l) = absurd (too_far (mag binary64 x) (mag binary64 r) (2 ^ 1074) h (lt_of_not-le l) (n.below (fin false 1 (pos 4)) tt tt refl (lt_of_not-le l)))

-- x is y / 2 ^ 46, and not below zero
root_small : (x : Float) (s : Bool) (y : ℕ) → T (fits binary64 x) → HasValue x s y (2 ^ 46) → y < 2 ^ 53 → (s ≡ true → y ≡ 0) → Small (sqrt_of x)
unfolding sqrt_of IsRoot
root_small x s y f v h z = go x f v (sqrt_is_root x f)
  where
    units : (x : Float) → HasValue x s y (2 ^ 46) → mag binary64 x ≡ y * 2 ^ 1028
    units x v = mag_of_value binary64 x s (y * 2 ^ 1028) (spread_value (2 ^ 1028) x s y (2 ^ 46) v)

    below : (x : Float) → HasValue x s y (2 ^ 46) → mag binary64 x < 128 * 2 ^ 1074
    below x v = rw (units x v) (lt_of_lt_of_le (shl_lt 53 1028 h) (lit≤ tt))

    go : (x : Float) → T (fits binary64 x) → HasValue x s y (2 ^ 46) → IsRoot x (sqrt_of x) → Small (sqrt_of x)
    go nan f v r = absurd v
    go (inf t) f v r = absurd v
    go (fin t zero e) f v r = record { ends = record { held = f; ends = tt }; most = rw (zero_times (up e) (2 ^ 1074), zero-div (down e)) zero-le }
    go (fin false (suc m) e) f v r = nearest_small (fin false (suc m) e) _ (below (fin false (suc m) e) v) r
    go (fin true (suc m) e) f v r = absurd (nothing m (up e) (down e) (2 ^ 46) (z (sym v.0)) v.1 (up_pos e) (pow_pos 46))
      where
        nothing : (m a d K : ℕ) → y ≡ 0 → suc m * a * K ≡ y * d → 0 < a → 0 < K → ⊥
        nothing m a d K e h p q =
            let g : 0 < suc m * a * K = mul-pos (mul-pos (zero-lt-suc m) p) q in
            let w : y * d ≡ 0 = rw e (zero-mul d) in
            omega arith

-- ---- the cosine is at most 1
cos_fits : (b : ℕ) → T (fits binary64 (cosine_of b))
unfolding cosine_of
cos_fits b = go (negative (square b))
  where
    w : T (fits binary64 (unit_of (size (square b))))
    w = div-fits binary64 (of_int binary64 (pos (size (square b)))) (fin false 1 (pos 51))

    go : (s : Bool) → T (fits binary64 (signed s (unit_of (size (square b)))))
    go false = w
    go true = neg-fits binary64 (unit_of (size (square b))) w

cos_finite : (b : ℕ) → Finite binary64 (cosine_of b)
cos_finite b = record { held = cos_fits b; ends = finite_of_value (cosine_of b) (negative (square b)) (size (square b)) (2 ^ 51) (cosine_value b) }

cos_most : (b : ℕ) → mag binary64 (cosine_of b) ≤ 2 ^ 1074
cos_most b =
    rw (mag_of_value binary64 (cosine_of b) (negative (square b)) (size (square b) * 2 ^ 1023)
    (spread_value (2 ^ 1023) (cosine_of b) _ _ (2 ^ 51) (cosine_value b)))
    (mul-le-mul_right (2 ^ 1023) (size-le-one (square b)))

-- ---- the Gaussian
not_below : (y : ℕ) → unlike true (not (eqb y 0)) ≡ true → y ≡ 0
not_below y e = go (eqb y 0) (eqb→eq y 0) e
  where
    go : (t : Bool) → (T t → y ≡ 0) → unlike true (not t) ≡ true → y ≡ 0
    go true z e = z tt
    go false z e = absurd (true≢false (sym e))

of_uniforms : {u v : Float} → Drawn u → Drawn v → Small (box_muller u v)
of_uniforms {u} {v} d d' =
    let b = to_bits binary64 u in
    let y = depth b in
    let h = depth_small d in
    let l = doubled (ln_of u) (not (eqb y 0)) y h (logarithm_value b h) in
    let r = root_small (mul binary64 (neg (fin false 1 (pos 1))) (ln_of u)) _ y (mul-fits binary64 _ (ln_of u)) l h (not_below y) in
    let t = to_bits binary64 (mul binary64 tau v) in
    rw (mul_commutes binary64 (sqrt_of (mul binary64 (neg (fin false 1 (pos 1))) (ln_of u))) (cosine_of t))
    (record { ends = mul-finite (cos_finite t) r.ends (cos_most t); most = le_trans (mul-at-most (cos_finite t) r.ends (cos_most t)) r.most })

pub gaussian_small : (rng : SplitMix64) → Small (gaussian_of rng)
unfolding gaussian_of
gaussian_small rng = of_uniforms (generator_drawn rng) (generator_drawn (after_of rng))

pub gaussian_finite : (rng : SplitMix64) → T (finite (gaussian_of rng))
gaussian_finite rng = (gaussian_small rng).ends.ends
