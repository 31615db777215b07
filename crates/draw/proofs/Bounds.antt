-- Both bounds, at every double u that a draw can be, and at t = TAU * u, rounded once.
-- The logarithm of u and the cosine of t meet the records of their specs/Bounds: the rules' laws, at the bits of u and of t.
use Rattle.std.proofs.Common.{◌≡◌, ℕ, ◌-◌, ◌*◌, ◌/◌, ◌^◌, ◌<◌, ◌≤◌, false, pos, le_trans, lt_of_le_of_lt, mod-lt, arith, lit<, lit≤}
use lib.Ieee.{Float, fin, binary64, mul, to_bits}
use lib.Ieee.Fits.{mul-fits}
use Rattle.draw.specs.Uniform.{uniform_of}
use Rattle.cosine.specs.Cosine.{size, negative, square, whole, cos_of, tau}
use Rattle.logarithm.specs.Logarithm.{low, places, depth, ln_of}
use Rattle.draw.specs.Gaussian.{ln_of_draw, cos_of_draw}
use Rattle.draw.specs.Drawn.{one, Drawn}
use Rattle.cosine.specs.Bounds.{CosineMeets}
use Rattle.logarithm.specs.Bounds.{LogarithmMeets}
use Rattle.cosine.proofs.CosineBound.{cosine_40, cosine_42}
use Rattle.logarithm.proofs.Logs.{logarithm_near}
use Rattle.draw.proofs.Values.{draw-bits, angle_bits, bits_value, cosine_value, size-le-one, logarithm_value, logarithm_of-one}
use Rattle.draw.proofs.Uniforms.{output-drawn}

-- the cosine of every draw lies in [-1, 1], within 2 ^ -45 of both exact sums
pub cosine_meets : {u : Float} → Drawn u → CosineMeets (mul binary64 tau u) (cos_of (mul binary64 tau u))
cosine_meets {u} d =
    let t = mul binary64 tau u in
    let b = to_bits binary64 t in
    let r = angle_bits d in
    record {
      x = whole b;
      w = size (square b);
      sign = negative (square b);
      argument = bits_value t (mul-fits binary64 tau u) (le_trans (lit≤ tt) r.0) (lt_of_le_of_lt r.1 (lit< tt));
      result = cosine_value b;
      inside = size-le-one (square b);
      forty = cosine_40 b r.1;
      forty_two = cosine_42 b r.1;
    }

depth-lt : (b : ℕ) → 969 * 2 ^ 52 ≤ b → depth b < 2 ^ 53
unfolding depth
depth-lt b h = omega arith

pub depth_small : {u : Float} → Drawn u → depth (to_bits binary64 u) < 2 ^ 53
depth_small {u} d = depth-lt (to_bits binary64 u) (draw-bits d).0

-- the logarithm of every draw is +0.0 or below zero, within 2 ^ -40 of the exact fraction
pub logarithm_meets : {u : Float} → Drawn u → LogarithmMeets u (ln_of u)
logarithm_meets {u} d =
    let b = to_bits binary64 u in
    let r = draw-bits d in
    let back : b / 2 ^ 52 ≡ 1023 - places b = omega arith in
    record {
      f = low b;
      e = places b;
      y = depth b;
      fraction = mod-lt b (lit< tt);
      exponent = omega arith;
      argument = rw (← back) (bits_value u d.held (le_trans (lit≤ tt) r.0) (lt_of_le_of_lt r.1 (lit< tt)));
      result = logarithm_value b (depth_small d);
      near = logarithm_near b r.1;
    }

-- at u = 1 the logarithm is +0.0
pub logarithm_at_one : ln_of one ≡ fin false 0 (pos 0)
unfolding to_bits
logarithm_at_one = logarithm_of-one

-- the same of the two public calls, at every output of 64 bits and in either edition
pub cosine_of-output : (edition word : ℕ) → word < 2 ^ 64 → CosineMeets (mul binary64 tau (uniform_of edition word)) (cos_of_draw edition word)
cosine_of-output edition word h = cosine_meets (output-drawn edition word h)

pub logarithm_of-output : (edition word : ℕ) → word < 2 ^ 64 → LogarithmMeets (uniform_of edition word) (ln_of_draw edition word)
logarithm_of-output edition word h = logarithm_meets (output-drawn edition word h)
