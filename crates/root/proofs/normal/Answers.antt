-- `root::normal` meets its contract. The loop keeps m * 2 ^ j.
use Prim.Native.Nat.{ℕ, zero, suc, ◌+◌, ◌-◌, ◌*◌, ◌^◌, ◌≤◌, ◌<◌}
use native.Mathlib.Nat.{pow-succ', mul-le-mul, le-add_left}
use native.Mathlib.Omega.{arith}
use mathlib.Core.Path.{◌≡◌, refl}
use lib.Pow.{pow_mono}
use Rattle.root.proofs.normal.Invariants.{Kept}
use Rattle.root.proofs.normal.Goals as goal

-- while m is short of its digits, j is above 0
pos : (t k m j : ℕ) → 0 < t → m * 2 ^ j ≡ t * 2 ^ (k + 52) → m < 2 ^ 52 → 0 < j
pos t k m zero T e h =
    let big : 1 * 2 ^ 52 ≤ t * 2 ^ (k + 52) = mul-le-mul T (pow_mono (le-add_left 52 k)) in
    omega arith
pos t k m (suc j) T e h = omega arith

step : (t k m j : ℕ) → Kept t k m j → 0 < j → m < 2 ^ 52 → Kept t k (2 * m) (j - 1)
step t k m zero a J h = omega arith
step t k m (suc j) a J h =
    let e : suc j - 1 ≡ j = omega arith in
    rw e
    (record {
      some = omega (arith, a.some);
      short = omega arith;
      near = omega (arith, a.near);
      same = let p = pow-succ' 2 j in let q : m * (2 * 2 ^ j) ≡ t * 2 ^ (k + 52) = rw p at a.same in omega arith;
    })

pub loop-m-init : goal.loop-m-init
loop-m-init c = record { some = omega arith; short = omega arith; near = omega arith; same = refl }

pub overflow_sub-j : goal.overflow_sub-j
overflow_sub-j c = omega (arith, pos _ _ _ _ c.requires.0 c.loop-m.invariant.same c.loop-m-test.true)

pub loop-m-smaller : goal.loop-m-smaller
loop-m-smaller c = omega (arith, pos _ _ _ _ c.requires.0 c.loop-m.invariant.same c.loop-m-test.true)

pub loop-m-preserved : goal.loop-m-preserved
loop-m-preserved c = step _ _ _ _ c.loop-m.invariant (pos _ _ _ _ c.requires.0 c.loop-m.invariant.same c.loop-m-test.true) c.loop-m-test.true

pub returns : goal.returns
returns c =
    let a = c.loop-m.invariant in
    record { full = omega arith; short = a.short; near = a.near; same = a.same }
