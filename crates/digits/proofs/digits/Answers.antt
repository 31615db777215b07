-- `digits::digits` meets its contract: where the exact rest is small enough, the guess or the next number is the root, whatever the guess is.
use Rattle.digits.proofs.RootGuess.{rest_is, here, next, upper_small}
use Rattle.std.proofs.Common.{◌%◌, ◌^◌, arith}
use Rattle.digits.proofs.digits.Goals as goal

pub excess-rest-requires : goal.excess-rest-requires
excess-rest-requires c = upper_small (c.near_root-g.result % 2 ^ 55) _ (omega arith) c.upper.ensures

pub returns-then-rest-g-2 : goal.returns-then-rest-g-2
returns-then-rest-g-2 c = here _ _ _ (rest_is _ _ _ _ _ c.upper.ensures c.lower.ensures (c.excess-rest.ensures (omega arith))) c.if-rest-g-2.true

pub returns-else-rest-g-2 : goal.returns-else-rest-g-2
returns-else-rest-g-2 c = next _ _ _ (rest_is _ _ _ _ _ c.upper.ensures c.lower.ensures (c.excess-rest.ensures (omega arith))) (omega (arith, c.if-rest-g-2.false)) c.if-rest-g.true
