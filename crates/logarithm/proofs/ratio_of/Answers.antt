-- `logarithm::ratio_of` meets its contract: the guess is right where the exact rest is below the divisor, and else the long division is taken.
use Rattle.logarithm.proofs.Guess.{rest_is, here, upper_small}
use Prim.Native.Nat.{ℕ, ◌+◌, ◌*◌, ◌-◌, ◌%◌, ◌^◌, ◌<◌}
use mathlib.Core.Path.{◌≡◌}
use native.Mathlib.Omega.{arith}
use Rattle.logarithm.proofs.ratio_of.Goals as goal

small : (f r : ℕ) → f < 2 ^ 52 → r < f + 2 ^ 53 → r < 2 ^ 64 - 1
small f r h l = omega arith

pub excess-rest-requires : goal.excess-rest-requires
excess-rest-requires c = upper_small (c.near_ratio-g.result % 2 ^ 52) (c.args.f + 2 ^ 53)
    _ (omega arith) (omega (arith, c.requires)) c.upper.ensures

pub returns-then-rest-den : goal.returns-then-rest-den
returns-then-rest-den c =
    let f = c.args.f in
    let exact : f * 2 ^ 50 ≡ c.near_ratio-g.result % 2 ^ 52 * (f + 2 ^ 53) + c.excess-rest.result =
    rest_is _ _ (f + 2 ^ 53) _ _ _ c.upper.ensures c.lower.ensures (c.excess-rest.ensures (small _ _ c.requires c.if-rest-den.true)) in
    here _ _ _ exact c.if-rest-den.true
