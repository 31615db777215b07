-- `worst::worst` meets its contract: w is the worst of the rows below i, and top its magnitude, so that a row of no larger one is passed over.
use Prim.Native.Nat.{◌+◌}
use mathlib.Core.Path.{◌≡◌, refl, sym, ap, ◌∙◌}
use native.Mathlib.Omega.{arith}
use lib.Ieee.{div, of_bits}
use lib.ListN.{length}
use Rattle.order.specs.Order.{worst_to}
use Rattle.order.proofs.Ranking.{Worst, worst_start, worst_now, worst_still, worst_below}
use Rattle.worst.proofs.Passing.{worst_past}
use Rattle.worst.proofs.worst.Goals as goal
use Rattle.worst.proofs.worst.Goals.{then-not-at_most+then-is_worse, else-not-at_most}
use Rattle.worst.proofs.worst.Goals.{else-not-at_most-via-then-not-at_most+else-is_worse, else-not-at_most-via-else-not-at_most}

pub loop-i-init : goal.loop-i-init
unfolding div of_bits
loop-i-init c = worst_start _ _ _ refl

pub loop-i-smaller : goal.loop-i-smaller
loop-i-smaller c = omega (arith, c.pass_over-i.ensures.low)

pub loop-i-preserved : goal.loop-i-preserved
loop-i-preserved c =
    let doubles = c.type_inv.ax in
    let v = c.loop-i.invariant in
    let h = c.loop-i-test.true in
    let next : Worst c.args.ax.now c.args.blocked.now (c.loop-i.i + 1) c.if-not-at_most.w c.if-not-at_most.top =
    elim c.if-not-at_most.branch [
      | then-not-at_most+then-is_worse t ↦ rw (t.w-is, t.top-is)
          (worst_now v h t.is_worse.result t.abs-top.result t.if-is_worse.true t.is_worse.ensures t.abs-top.ensures)
      | else-not-at_most t ↦ rw (t.w-is, t.top-is)
          (elim t.else-not-at_most.branch [
            | else-not-at_most-via-then-not-at_most+else-is_worse s ↦ worst_still v h s.is_worse.result s.if-is_worse.false s.is_worse.ensures
            | else-not-at_most-via-else-not-at_most s ↦ worst_below v h (doubles _) (doubles _) (sym c.at_most.ensures ∙ s.if-not-at_most.false)
          ])
    ] in
    worst_past doubles next c.pass_over-i.ensures

pub returns : goal.returns
returns c =
    let a = c.args in
    let all : c.loop-i.i ≡ length a.ax.now = omega (arith, c.loop-i.invariant.upto) in
    c.loop-i.invariant.is ∙ ap (worst_to a.ax.now a.blocked.now (length a.ax.now)) all
