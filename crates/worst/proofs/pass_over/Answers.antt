-- `worst::pass_over` meets its contract: what the loop has left behind is passed over.
use mathlib.Core.Path.{sym, ◌∙◌}
use native.Mathlib.Omega.{arith}
use Rattle.seq.proofs.Passing.{none_passed, four-passed}
use Rattle.worst.proofs.pass_over.Goals as goal

pub loop-i-init : goal.loop-i-init
loop-i-init c = none_passed _ _ _ c.requires.1

pub overflow_sub-ax : goal.overflow_sub-ax
overflow_sub-ax c = c.loop-i.invariant.inside

pub returns-then-not-four_pass : goal.returns-then-not-four_pass
returns-then-not-four_pass c = c.loop-i.invariant

pub loop-i-smaller : goal.loop-i-smaller
loop-i-smaller c = omega arith

pub loop-i-preserved : goal.loop-i-preserved
loop-i-preserved c = four-passed c.loop-i.invariant (omega arith) (sym c.four_pass.ensures ∙ c.if-not-four_pass.false)

pub returns : goal.returns
returns c = c.loop-i.invariant
