-- `marking::is_each_once` meets its contract: a mark is how often its row was met.
use Rattle.seq.specs.Lists.{repeated}
use Rattle.marking.proofs.Marking.{mark_none, mark_more, mark_all, too_large, met_twice}
use Rattle.arranged.proofs.Ordered.{tells_yes, tells_no}
use Prim.Native.Nat.{ℕ}
use mathlib.Core.Path.{ap, ◌∙◌}
use Rattle.marking.proofs.is_each_once.Goals as goal
use Rattle.marking.proofs.is_each_once.Goals.{then-x-marks-via-then-x-marks, then-x-marks-via-else-x-marks+then-marks-x-ne0}

pub loop-row-init : goal.loop-row-init
loop-row-init c =
    mark_none _ _ (c.fill.ensures ∙ ap (λ (k : ℕ). repeated 0 k) c.requires)

pub returns-then-x-marks : goal.returns-then-x-marks
returns-then-x-marks c =
    tells_no
    (elim c.then-x-marks.branch [
      | then-x-marks-via-then-x-marks w ↦ too_large c.loop-row.invariant c.loop-row-test.true w.if-x-marks.true
      | then-x-marks-via-else-x-marks+then-marks-x-ne0 w ↦
          met_twice c.loop-row.invariant c.loop-row-test.true w.if-x-marks.false w.if-marks-x-ne0.true
    ])

pub loop-row-preserved : goal.loop-row-preserved
loop-row-preserved c =
    mark_more c.loop-row.invariant c.loop-row-test.true c.if-x-marks.false c.if-marks-x-ne0.false

pub returns : goal.returns
returns c = tells_yes (mark_all c.loop-row.invariant c.loop-row-test.false)
