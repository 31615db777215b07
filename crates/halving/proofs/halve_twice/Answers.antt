-- `halving::halve_twice` meets its contract: the second halving starts from what the first left, with the same rest and the same ω.
use native.Mathlib.Omega.{arith}
use Rattle.limits.specs.Reading.{read_of}
use Rattle.halved.proofs.Calls.{ready_still}
use Rattle.halved.proofs.Adding.{one_countable, countable_once}
use Rattle.passed.proofs.Calls.{rest_below, rest_short, pass_holds}
use Rattle.halving.proofs.halve_twice.Goals as goal

pub overflow_cast-heaviest : goal.overflow_cast-heaviest
overflow_cast-heaviest c = omega (arith, c.type_inv.rest 0)

pub offset_bounds-w-heaviest : goal.offset_bounds-w-heaviest
offset_bounds-w-heaviest c = omega (arith, c.type_inv.rest 0)

pub bounds-w-heaviest : goal.bounds-w-heaviest
bounds-w-heaviest c =
    (rest_below c.args.w.now c.args.rest.now c.requires.1).below 0 c.requires.2

pub halve-once-requires : goal.halve-once-requires
halve-once-requires c =
    let a = c.args in
    let v = c.requires in
    (v.0, rest_below a.w.now a.rest.now v.1, rest_short a.w.now a.rest.now v.1, one_countable v.3)

pub halve-twice-requires : goal.halve-twice-requires
halve-twice-requires c =
    let a = c.args in
    let v = c.requires in
    let k = c.halve-once.auto in
    let long = k.w in
    let short = rest_short a.w.now a.rest.now v.1 in (
      ready_still v.0 long k.numbers k.indices,
      rw long (rest_below a.w.now a.rest.now v.1),
      rw long short,
      countable_once _ _ _ _ _ _ _ v.3 (omega (arith, short, v.0.few)) c.halve-once.ensures,
    )

pub returns : goal.returns
returns c =
    let a = c.args in
    pass_holds (read_of a.matrix.now a.bits.now a.n) a.n a.w.now _ _ _ a.rest.now c.abs-omega.result a.tally _ _
    c.requires.1 c.abs-omega.ensures c.halve-once.ensures c.halve-twice.ensures c.normalize.ensures
