-- `toallowance::to_allowance` meets its contract: the loop stands on the path of the stages, at one that does not close it, each is noted, and the nonzeros
-- fall with
-- each pass.
use denote.Enum.Bare.{sameb}
use Prim.Native.Nat.{◌<◌}
use mathlib.Core.Bool.{true, false}
use mathlib.Core.Path.{◌≡◌, refl, sym, ap, ◌∙◌}
use native.Mathlib.Omega.{arith}
use lib.ListN.{length}
use Rattle.seq.specs.Lists.{tabulate}
use Rattle.ieee.specs.Constants.{one}
use Rattle.limits.specs.Limits.{bounded}
use Rattle.limits.specs.Reading.{read_of}
use Rattle.change.specs.Margins.{max_change}
use Rattle.weights.specs.Weights.{nonzeros}
use Rattle.halved.proofs.Calls.{ready_still}
use Rattle.tried.proofs.Trying.{lent_of}
use Rattle.rules.specs.declared.Rule.TheVariants.{Within}
use Rattle.tried.specs.contracts.Outcome.{the_type}
use Rattle.tried.specs.declared.Outcome.{Outcome}
use Rattle.tried.specs.declared.Outcome.TheVariants.{Discarded, Last, Onward}
use Rattle.tried.specs.Trial.{was_taken, goes_onward}
use Rattle.stages.proofs.Passing.{normal_bounded, falling}
use Rattle.stages.proofs.Following.{on_start, on_tallied, tried_tallied, opens, eight, note, note_first, noted}
use Rattle.stages.proofs.Following.{allowance_met, allowance_left, allowance_on, allowance_fewer, allowance_goes, allowance_last, measured}
use Rattle.stages.proofs.Totals.{countable_at}
use Rattle.toallowance.proofs.to_allowance.Goals as goal

-- what the two tests of an outcome say
discarded : (o : Outcome) → sameb the_type o Discarded ≡ true → was_taken o ≡ false
discarded Discarded e = refl
discarded Last e = cc
discarded Onward e = cc

not_discarded : (o : Outcome) → sameb the_type o Discarded ≡ false → was_taken o ≡ true
not_discarded Discarded e = cc
not_discarded Last e = refl
not_discarded Onward e = refl

is_last : (o : Outcome) → sameb the_type o Last ≡ true → goes_onward o ≡ false
is_last Discarded e = refl
is_last Last e = refl
is_last Onward e = cc

not_last : (o : Outcome) → was_taken o ≡ true → sameb the_type o Last ≡ false → goes_onward o ≡ true
not_last Discarded t e = cc
not_last Last t e = cc
not_last Onward t e = refl

pub change_of-requires : goal.change_of-requires
change_of-requires c =
    let same = ap length c.requires.2 in
    (lent_of c.args.start.now c.requires.0 (sym same), same)

pub loop-left-init : goal.loop-left-init
unfolding tabulate
loop-left-init c =
    let a = c.args in
    let same = c.requires.2 in
    let few = c.requires.0.few in
    let small : bounded one a.start.now ≡ true = rw same at c.requires.1 in
    let on = on_start (read_of a.matrix.now a.bits.now a.n) a.n a.start.now a.source (omega (arith, few, ap length same))
    (Within a.allowance a.cap) (record { directions = 0; sweeps = 0; rng = a.source }) refl refl refl in (
      rw same on,
      falling (read_of a.matrix.now a.bits.now a.n) a.n a.start.now a.source
          (normal_bounded a.start.now (λ j l. c.type_inv.start j) small) (omega (arith, few, ap length same)),
      note_first (read_of a.matrix.now a.bits.now a.n) a.n a.start.now a.source on
          (c.count_nonzeros-left.ensures ∙ ap nonzeros same)
          (c.change_of.ensures ∙ ap (max_change (read_of a.matrix.now a.bits.now a.n) (length a.start.now) a.n a.start.now) same),
      c.count_nonzeros-left.ensures,
      opens (read_of a.matrix.now a.bits.now a.n) a.n a.start.now a.source a.allowance a.cap,
      refl,
      refl,
      refl,
    )

pub try_pass-t-requires : goal.try_pass-t-requires
try_pass-t-requires c =
    let a = c.args in
    let inv = c.loop-left.invariant in
    let same = ap length c.requires.2 in
    let long = inv.0.long in (
      ready_still c.requires.0 (long ∙ sym same) inv.6 inv.7,
      sym long,
      inv.5 ∙ c.requires.3 ∙ same ∙ sym long,
      omega (arith, inv.3, c.loop-left-test.true),
      countable_at (omega (arith, c.requires.0.few, same)) inv.0.near
          (on_tallied (read_of a.matrix.now a.bits.now a.n) a.n a.start.now a.source inv.0),
    )

pub overflow_add-stage : goal.overflow_add-stage
overflow_add-stage c =
    omega (arith, c.loop-left.invariant.0.near)

pub offset_bounds-nonzeros-stage-in-loop-left : goal.offset_bounds-nonzeros-stage-in-loop-left
offset_bounds-nonzeros-stage-in-loop-left c =
    omega (arith, c.loop-left.invariant.0.near)

pub bounds-nonzeros-stage-in-loop-left : goal.bounds-nonzeros-stage-in-loop-left
bounds-nonzeros-stage-in-loop-left c =
    let inv = c.loop-left.invariant in
    omega (arith, eight _ _ inv.0.room (omega (arith, inv.3, c.loop-left-test.true)))

pub offset_bounds-change-stage-in-loop-left : goal.offset_bounds-change-stage-in-loop-left
offset_bounds-change-stage-in-loop-left c =
    omega (arith, c.loop-left.invariant.0.near)

pub bounds-change-stage-in-loop-left : goal.bounds-change-stage-in-loop-left
bounds-change-stage-in-loop-left c =
    let inv = c.loop-left.invariant in
    omega (arith, eight _ _ inv.0.room (omega (arith, inv.3, c.loop-left-test.true)))

pub loop-left-smaller : goal.loop-left-smaller
loop-left-smaller c =
    let a = c.args in
    let inv = c.loop-left.invariant in
    let some : 1 < nonzeros c.loop-left.w = omega (arith, inv.3, c.loop-left-test.true) in
    let taken = not_discarded _ (sym c.eq.ensures ∙ c.if-eq.false) in
    allowance_fewer (read_of a.matrix.now a.bits.now a.n) a.n a.start.now a.source inv.1 c.requires.4 inv.0 inv.4 some
    c.try_pass-t.ensures taken

pub loop-left-preserved : goal.loop-left-preserved
loop-left-preserved c =
    let a = c.args in
    let inv = c.loop-left.invariant in
    let k = c.try_pass-t.auto in
    let some : 1 < nonzeros c.loop-left.w = omega (arith, inv.3, c.loop-left-test.true) in
    let taken = not_discarded _ (sym c.eq.ensures ∙ c.if-eq.false) in
    let more = not_last _ taken (sym c.eq-in-loop-left.ensures ∙ c.if-eq-2.false) in
    let on = allowance_on (read_of a.matrix.now a.bits.now a.n) a.n a.start.now a.source inv.1 c.requires.4 inv.0 inv.4 some
    c.try_pass-t.ensures taken in (
      on,
      inv.1,
      note (read_of a.matrix.now a.bits.now a.n) a.n a.start.now a.source on c.count_nonzeros-left-in-loop-left.ensures
          (measured (read_of a.matrix.now a.bits.now a.n) a.n a.start.now a.source inv.1 c.requires.4 inv.0 inv.4 some
          c.try_pass-t.ensures taken)
          inv.2.counts inv.2.moves,
      c.count_nonzeros-left-in-loop-left.ensures,
      allowance_goes (read_of a.matrix.now a.bits.now a.n) a.n a.start.now a.source inv.1 c.requires.4 inv.0 inv.4 some
          c.try_pass-t.ensures taken more,
      k.next ∙ inv.5,
      k.numbers ∙ inv.6,
      k.indices ∙ inv.7,
    )

pub shape_of-w-after-loop-left : goal.shape_of-w-after-loop-left
shape_of-w-after-loop-left c =
    c.loop-left.invariant.0.long ∙ sym (ap length c.requires.2)

pub returns-after-loop-left : goal.returns-after-loop-left
returns-after-loop-left c =
    let a = c.args in
    let inv = c.loop-left.invariant in
    rw c.requires.2
    (allowance_met (read_of a.matrix.now a.bits.now a.n) a.n a.start.now a.source inv.1 c.requires.4 inv.0
    (omega (arith, inv.3, c.loop-left-test.false))
    (noted (read_of a.matrix.now a.bits.now a.n) a.n a.start.now a.source inv.0.near inv.2
    (on_tallied (read_of a.matrix.now a.bits.now a.n) a.n a.start.now a.source inv.0) _ refl refl refl refl refl))

pub shape_of-w-then-eq : goal.shape_of-w-then-eq
shape_of-w-then-eq c =
    c.try_pass-t.auto.w ∙ c.loop-left.invariant.0.long ∙ sym (ap length c.requires.2)

pub returns-then-eq : goal.returns-then-eq
returns-then-eq c =
    let a = c.args in
    let inv = c.loop-left.invariant in
    let some : 1 < nonzeros c.loop-left.w = omega (arith, inv.3, c.loop-left-test.true) in
    let left = discarded _ (sym c.eq.ensures ∙ c.if-eq.true) in
    rw c.requires.2
    (allowance_left (read_of a.matrix.now a.bits.now a.n) a.n a.start.now a.source inv.1 c.requires.4 inv.0 inv.4 some
    c.try_pass-t.ensures left
    (noted (read_of a.matrix.now a.bits.now a.n) a.n a.start.now a.source inv.0.near inv.2
    (tried_tallied (read_of a.matrix.now a.bits.now a.n) a.n a.start.now a.source inv.1 c.requires.4 inv.0 inv.4 some
    c.try_pass-t.ensures) _ refl refl refl refl refl))

pub shape_of-w-then-eq-2 : goal.shape_of-w-then-eq-2
shape_of-w-then-eq-2 c =
    c.try_pass-t.auto.w ∙ c.loop-left.invariant.0.long ∙ sym (ap length c.requires.2)

pub returns-then-eq-2 : goal.returns-then-eq-2
returns-then-eq-2 c =
    let a = c.args in
    let inv = c.loop-left.invariant in
    let some : 1 < nonzeros c.loop-left.w = omega (arith, inv.3, c.loop-left-test.true) in
    let taken = not_discarded _ (sym c.eq.ensures ∙ c.if-eq.false) in
    let last = is_last _ (sym c.eq-in-loop-left.ensures ∙ c.if-eq-2.true) in
    let on = allowance_on (read_of a.matrix.now a.bits.now a.n) a.n a.start.now a.source inv.1 c.requires.4 inv.0 inv.4 some
    c.try_pass-t.ensures taken in
    let path = note (read_of a.matrix.now a.bits.now a.n) a.n a.start.now a.source on c.count_nonzeros-left-in-loop-left.ensures
    (measured (read_of a.matrix.now a.bits.now a.n) a.n a.start.now a.source inv.1 c.requires.4 inv.0 inv.4 some
    c.try_pass-t.ensures taken)
    inv.2.counts inv.2.moves in
    rw c.requires.2
    (allowance_last (read_of a.matrix.now a.bits.now a.n) a.n a.start.now a.source inv.1 c.requires.4 inv.0 inv.4 some
    c.try_pass-t.ensures taken last
    (noted (read_of a.matrix.now a.bits.now a.n) a.n a.start.now a.source on.near path
    (on_tallied (read_of a.matrix.now a.bits.now a.n) a.n a.start.now a.source on) _ refl refl refl refl refl))
