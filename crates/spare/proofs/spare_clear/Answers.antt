-- `spare::spare_clear` meets its contract: after j turns it says whether the spare bits of the first j columns are clear.
use mathlib.Core.Path.{◌≡◌, refl}
use native.Mathlib.Omega.{arith}
use native.Mathlib.Numerals.{add-one}
use Rattle.seq.specs.Keep.{all_to}
use Rattle.limits.specs.Votes.{spare_clear}
use Rattle.limits.proofs.Spare.{column_below}
use Rattle.spare.proofs.spare_clear.Goals as goal

pub loop-j-init : goal.loop-j-init
unfolding all_to
loop-j-init c = refl

pub overflow_mul-from : goal.overflow_mul-from
overflow_mul-from c =
    let a = c.args in
    let f = column_below c.loop-j.j a.m a.n c.loop-j-test.true c.requires.0 in
    omega (arith, f.0, f.1)

pub overflow_mul-from-in-loop-j : goal.overflow_mul-from-in-loop-j
overflow_mul-from-in-loop-j c =
    let a = c.args in
    let f = column_below c.loop-j.j a.m a.n c.loop-j-test.true c.requires.0 in
    omega (arith, f.0, f.1)

pub overflow_add-from : goal.overflow_add-from
overflow_add-from c =
    let a = c.args in
    let f = column_below c.loop-j.j a.m a.n c.loop-j-test.true c.requires.0 in
    omega (arith, f.0, f.1)

pub clear_from-ok-requires : goal.clear_from-ok-requires
clear_from-ok-requires c =
    let a = c.args in
    let f = column_below c.loop-j.j a.m a.n c.loop-j-test.true c.requires.0 in
    (omega (arith, f.0, f.1, c.requires.2), omega (arith, f.0, f.1))

pub loop-j-preserved : goal.loop-j-preserved
unfolding all_to
loop-j-preserved c = rw (add-one, c.loop-j.invariant, c.clear_from-ok.ensures) refl

pub returns : goal.returns
unfolding spare_clear
returns c =
    let done : c.loop-j.j ≡ c.args.m = omega arith in
    rw (← done) c.loop-j.invariant
