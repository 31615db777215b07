-- `totarget::to_target` meets its contract: the loop stands on the path of the stages, none of which has stopped, each is noted, and the nonzeros fall with
-- each pass.
use mathlib.Core.Bool.{true}
use mathlib.Core.Path.{◌≡◌, refl, sym, ap, ◌∙◌}
use native.Mathlib.Omega.{arith}
use lib.ListN.{length}
use Rattle.seq.specs.Lists.{tabulate}
use Rattle.ieee.specs.Constants.{one}
use Rattle.limits.specs.Limits.{bounded}
use Rattle.limits.specs.Reading.{read_of}
use Rattle.change.specs.Margins.{max_change}
use Rattle.weights.specs.Weights.{nonzeros}
use Rattle.halved.proofs.Calls.{ready_still}
use Rattle.tried.proofs.Trying.{lent_of}
use Rattle.rules.specs.declared.Rule.TheVariants.{Target}
use Rattle.stages.proofs.Passing.{normal_bounded, falling}
use Rattle.stages.proofs.Following.{on_start, on_tallied, eight, note, note_first, noted, target_met, target_next, target_fewer}
use Rattle.stages.proofs.Totals.{countable_at}
use Rattle.totarget.proofs.to_target.Goals as goal

pub change_of-requires : goal.change_of-requires
change_of-requires c =
    let same = ap length c.requires.2 in
    (lent_of c.args.start.now c.requires.0 (sym same), same)

pub loop-left-init : goal.loop-left-init
unfolding tabulate
loop-left-init c =
    let a = c.args in
    let same = c.requires.2 in
    let few = c.requires.0.few in
    let small : bounded one a.start.now ≡ true = rw same at c.requires.1 in
    let on = on_start (read_of a.matrix.now a.bits.now a.n) a.n a.start.now a.source (omega (arith, few, ap length same))
    (Target a.target)
    (record { directions = 0; sweeps = 0; rng = a.source }) refl refl refl in (
      rw same on,
      falling (read_of a.matrix.now a.bits.now a.n) a.n a.start.now a.source
          (normal_bounded a.start.now (λ j l. c.type_inv.start j) small) (omega (arith, few, ap length same)),
      note_first (read_of a.matrix.now a.bits.now a.n) a.n a.start.now a.source on
          (c.count_nonzeros-left.ensures ∙ ap nonzeros same)
          (c.change_of.ensures ∙ ap (max_change (read_of a.matrix.now a.bits.now a.n) (length a.start.now) a.n a.start.now) same),
      c.count_nonzeros-left.ensures,
      refl,
      refl,
    )

pub halving_pass-tally-requires : goal.halving_pass-tally-requires
halving_pass-tally-requires c =
    let a = c.args in
    let inv = c.loop-left.invariant in (
      ready_still c.requires.0 (inv.0.long ∙ sym (ap length c.requires.2)) inv.4 inv.5,
      omega (arith, inv.3, c.loop-left-test.true, c.requires.3),
      countable_at (omega (arith, c.requires.0.few, ap length c.requires.2)) inv.0.near
          (on_tallied (read_of a.matrix.now a.bits.now a.n) a.n a.start.now a.source inv.0),
    )

pub overflow_add-stage : goal.overflow_add-stage
overflow_add-stage c =
    omega (arith, c.loop-left.invariant.0.near)

pub offset_bounds-nonzeros-stage-in-loop-left : goal.offset_bounds-nonzeros-stage-in-loop-left
offset_bounds-nonzeros-stage-in-loop-left c =
    omega (arith, c.loop-left.invariant.0.near)

pub bounds-nonzeros-stage-in-loop-left : goal.bounds-nonzeros-stage-in-loop-left
bounds-nonzeros-stage-in-loop-left c =
    let inv = c.loop-left.invariant in
    omega (arith, eight _ _ inv.0.room (omega (arith, inv.3, c.loop-left-test.true, c.requires.3)))

pub change_of-requires-in-loop-left : goal.change_of-requires-in-loop-left
change_of-requires-in-loop-left c = (
  lent_of c.args.start.now c.requires.0 (sym (ap length c.requires.2)),
  c.halving_pass-tally.auto.w ∙ c.loop-left.invariant.0.long,
)

pub offset_bounds-change-stage-in-loop-left : goal.offset_bounds-change-stage-in-loop-left
offset_bounds-change-stage-in-loop-left c =
    omega (arith, c.loop-left.invariant.0.near)

pub bounds-change-stage-in-loop-left : goal.bounds-change-stage-in-loop-left
bounds-change-stage-in-loop-left c =
    let inv = c.loop-left.invariant in
    omega (arith, eight _ _ inv.0.room (omega (arith, inv.3, c.loop-left-test.true, c.requires.3)))

pub loop-left-smaller : goal.loop-left-smaller
loop-left-smaller c =
    let a = c.args in
    let inv = c.loop-left.invariant in
    target_fewer (read_of a.matrix.now a.bits.now a.n) a.n a.start.now a.source inv.1 c.requires.3 inv.0
    (omega (arith, inv.3, c.loop-left-test.true)) c.halving_pass-tally.ensures

pub loop-left-preserved : goal.loop-left-preserved
loop-left-preserved c =
    let a = c.args in
    let inv = c.loop-left.invariant in
    let k = c.halving_pass-tally.auto in
    let on = target_next (read_of a.matrix.now a.bits.now a.n) a.n a.start.now a.source inv.1 c.requires.3 inv.0
    (omega (arith, inv.3, c.loop-left-test.true)) c.halving_pass-tally.ensures in (
      on,
      inv.1,
      note (read_of a.matrix.now a.bits.now a.n) a.n a.start.now a.source on c.count_nonzeros-left-in-loop-left.ensures c.change_of-in-loop-left.ensures
          inv.2.counts inv.2.moves,
      c.count_nonzeros-left-in-loop-left.ensures,
      k.numbers ∙ inv.4,
      k.indices ∙ inv.5,
    )

pub shape_of-w : goal.shape_of-w
shape_of-w c =
    c.loop-left.invariant.0.long ∙ sym (ap length c.requires.2)

pub returns : goal.returns
returns c =
    let a = c.args in
    let inv = c.loop-left.invariant in
    rw c.requires.2
    (target_met (read_of a.matrix.now a.bits.now a.n) a.n a.start.now a.source inv.1 c.requires.3 inv.0
    (omega (arith, inv.3, c.loop-left-test.false))
    (noted (read_of a.matrix.now a.bits.now a.n) a.n a.start.now a.source inv.0.near inv.2
    (on_tallied (read_of a.matrix.now a.bits.now a.n) a.n a.start.now a.source inv.0) _ refl refl refl refl refl))
