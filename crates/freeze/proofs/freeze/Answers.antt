-- `freeze::freeze` meets its contract: after p turns the scratch holds the walk of which the coordinates below p were looked at.
use Rattle.blocking.specs.Freeze.{freeze_to}
use Rattle.seq.specs.Sums.{plus_zero}
use Rattle.blocking.specs.Held.{held}
use Rattle.blocking.proofs.Freezing.{freezes_near, freezes_far, freezes_not, freezing_start, freezing_one, freezing_none}
use mathlib.Core.Path.{◌≡◌, ap, ◌∙◌}
use Rattle.chosen.specs.Entries.{entry_of}
use native.Mathlib.Omega.{arith}
use lib.ListN.{length}
use Rattle.freeze.proofs.freeze.Goals as goal
use Rattle.freeze.proofs.freeze.Goals.{then-free-p-eq1+then-abs, else-free-p-eq1, else-free-p-eq1-via-then-free-p-eq1+else-abs, else-free-p-eq1-via-else-free-p-eq1}

pub loop-p-init : goal.loop-p-init
loop-p-init c =
    let a = c.args in
    freezing_start _ _ a.numbers.now a.blocked.now a.x.now a.free.now a.v.now _ _
    c.requires.1

pub freeze_at-requires : goal.freeze_at-requires
freeze_at-requires c =
    let p = c.requires in
    let i = c.loop-p.invariant in
    (rw i.rows p.0, i.roomy, i.vs ∙ p.2, c.loop-p-test.true)

pub loop-p-preserved : goal.loop-p-preserved
loop-p-preserved c =
    let a = c.args in
    let s = c.loop-p in
    let e = entry_of a.matrix.now a.bits.now a.n a.cols.now a.scale.now in
    let l = length a.cols.now in
    elim c.if-free-p-eq1.branch [
      | then-free-p-eq1+then-abs w ↦ rw (w.numbers-is, w.blocked-is, w.x-is, w.free-is, w.v-is, w.f-is)
          (freezing_one e l a.numbers.now a.blocked.now a.x.now a.free.now a.v.now
          a.from.count a.from.frozen s.numbers s.blocked s.x s.free s.v
          s.f.count s.f.frozen s.p s.invariant c.loop-p-test.true _ _ _ _ _ _
          (freezes_near s.numbers s.blocked s.x s.free s.f.count s.f.frozen s.p w.abs.result w.if-free-p-eq1.true w.abs.ensures w.if-abs.true)
          w.freeze_at.auto.numbers w.freeze_at.auto.blocked w.freeze_at.auto.x w.freeze_at.auto.free w.freeze_at.auto.v w.freeze_at.ensures)
      | else-free-p-eq1 w ↦ rw (w.numbers-is, w.blocked-is, w.x-is, w.free-is, w.v-is, w.f-is)
          (freezing_none e l a.numbers.now a.blocked.now a.x.now a.free.now a.v.now
          a.from.count a.from.frozen s.numbers s.blocked s.x s.free s.v
          s.f.count s.f.frozen s.p s.invariant c.loop-p-test.true
          (elim w.else-free-p-eq1.branch [
            | else-free-p-eq1-via-then-free-p-eq1+else-abs w' ↦ freezes_far s.numbers s.blocked s.x s.free s.f.count s.f.frozen s.p
                w'.abs.result w'.if-free-p-eq1.true w'.abs.ensures w'.if-abs.false
            | else-free-p-eq1-via-else-free-p-eq1 w' ↦ freezes_not s.numbers s.blocked s.x s.free s.f.count s.f.frozen s.p w'.if-free-p-eq1.false
          ]))
    ]

pub returns : goal.returns
returns c =
    let a = c.args in
    let s = c.loop-p in
    let done : s.p ≡ length a.cols.now = omega (arith, s.invariant.upto) in
    record {
      holds = λ rng. s.invariant.holds rng ∙ ap (freeze_to plus_zero (entry_of a.matrix.now a.bits.now a.n a.cols.now a.scale.now)
          (length a.cols.now) (length a.blocked.now)
          (held a.numbers.now a.blocked.now a.x.now a.free.now a.from.count a.from.frozen rng)) done;
    }
