-- `terms::share` meets its contract: the constant is the whole part of 2 ^ 70 / d.
use Prim.Native.Nat.{ℕ, ◌+◌, ◌-◌, ◌*◌, ◌/◌, ◌%◌, ◌^◌, ◌<◌}
use native.Mathlib.Nat.{mod-lt}
use native.Mathlib.Omega.{arith}
use Rattle.terms.proofs.NearTurns.{constant, constant_fits, share_is}
use Rattle.terms.proofs.share.Goals as goal

above : (d : ℕ) → 64 < d → 0 < d
above d h = omega arith

rest_small : (d : ℕ) → 64 < d → d < 2 ^ 32 → (2 ^ 64 - 1) % d < 2 ^ 32
rest_small d h l = omega (arith, mod-lt (2 ^ 64 - 1) (above d h))

fits : (d : ℕ) → 64 < d → (2 ^ 64 - 1) / d * 64 + ((2 ^ 64 - 1) % d + 1) * 64 / d < 2 ^ 64
fits d h = constant_fits d ((2 ^ 64 - 1) / d * 64 + ((2 ^ 64 - 1) % d + 1) * 64 / d) h (constant d (above d h)).0

pub overflow_add-more : goal.overflow_add-more
overflow_add-more c = omega (arith, rest_small c.args.d c.requires.0 c.requires.1)

pub overflow_mul-more : goal.overflow_mul-more
overflow_mul-more c = omega (arith, rest_small c.args.d c.requires.0 c.requires.1)

pub overflow_mul-whole : goal.overflow_mul-whole
overflow_mul-whole c = omega (arith, fits c.args.d c.requires.0)

pub overflow_add-whole : goal.overflow_add-whole
overflow_add-whole c = omega (arith, fits c.args.d c.requires.0)

pub returns : goal.returns
returns c =
    let d = c.args.d in
    let p = above d c.requires.0 in
    let k = constant d p in
    share_is c.args.z d _ _ c.ranges.z.fits p k.0 k.1 c.upper.ensures
