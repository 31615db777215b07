-- `fields::width_at` meets its contract: the digits that are passed and those from there on are all of them.
use Rattle.fields.proofs.Turns.{passing_turn, passing_left, passing_whole}
use mathlib.Core.Path.{◌≡◌, sym, ◌∙◌}
use native.Mathlib.Omega.{arith}
use Rattle.fields.proofs.width_at.Goals as goal

pub loop-w-preserved : goal.loop-w-preserved
loop-w-preserved c = passing_turn c.loop-w.invariant (omega arith) (rw (← c.byte_at.ensures) (sym c.is_ascii_digit.ensures.value ∙ c.if-not-is_ascii_digit.false))

pub returns-then-not-is_ascii_digit : goal.returns-then-not-is_ascii_digit
returns-then-not-is_ascii_digit c = passing_left c.loop-w.invariant (omega arith) (rw (← c.byte_at.ensures) (sym c.is_ascii_digit.ensures.value ∙ c.if-not-is_ascii_digit.true))

pub returns : goal.returns
returns c =
    let e : c.loop-w.w ≡ 11 = omega arith in
    sym e ∙ passing_whole c.loop-w.invariant (omega arith)
