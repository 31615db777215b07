-- `digits::digit_by_digit` meets its contract. After i turns q * q + rem is m * 2 ^ 54's upper i pairs of digits, and q its root: rem ≤ 2 * q.
use Rattle.std.proofs.Common.{◌≡◌, ℕ, ◌+◌, ◌*◌, ◌^◌, ◌<◌, ◌≤◌, arith, pow-add}
use Rattle.digits.proofs.digit_by_digit.Given as goal

-- the four numbers after i turns
pub record After (m rest q rem i : ℕ) : Type 0 where
  pub within : i ≤ 54
  pub left : rest < 2 ^ 54
  pub least : rem ≤ 2 * q
  pub short : q < 2 ^ i
  pub taken : m * 4 ^ i ≡ (q * q + rem) * 2 ^ 54 + rest

pub four : (m i : ℕ) → m * 4 ^ (i + 1) ≡ 4 * (m * 4 ^ i)
four m i = let p : 4 ^ (i + 1) ≡ 4 ^ i * 4 = pow-add 4 i 1 in rw p (omega arith)

abbrev pub invariant-loop-turn : goal.invariant-loop-turn
invariant-loop-turn l = After l.m l.rest l.q l.rem l.turn
