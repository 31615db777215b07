-- `flipping::try_flip` meets its contract: the two ways out are the two ways of a trial.
use Rattle.flipping.proofs.Flips.{left_alone, turned-over}
use Rattle.chosen.specs.Entries.{entry_of}
use native.Mathlib.Omega.{arith}
use Rattle.flipping.proofs.try_flip.Goals as goal

pub overflow_cast-c : goal.overflow_cast-c
overflow_cast-c c = omega (arith, c.type_inv.cols c.args.j)

pub stays_below_of-requires : goal.stays_below_of-requires
stays_below_of-requires c =
    let p = c.requires in
    (p.0.inside c.args.j p.2, p.0.low, p.0.high)

pub less_column_of-requires : goal.less_column_of-requires
less_column_of-requires c =
    let p = c.requires in
    (p.0.inside c.args.j p.2, p.0.low, p.0.high)

pub returns-then-not-stays_below_of : goal.returns-then-not-stays_below_of
returns-then-not-stays_below_of c =
    let a = c.args in
    left_alone (entry_of a.matrix.now a.bits.now a.n a.cols.now a.scale.now a.j) a.j a.x.now a.ax.now a.best
    c.stays_below_of.result c.stays_below_of.ensures c.if-not-stays_below_of.true

pub returns : goal.returns
returns c =
    let a = c.args in
    turned-over (entry_of a.matrix.now a.bits.now a.n a.cols.now a.scale.now a.j) a.j a.x.now a.ax.now a.best
    c.stays_below_of.result c.stays_below_of.ensures c.less_column_of.new.ax c.max_abs.result c.if-not-stays_below_of.false
    c.less_column_of.ensures c.max_abs.ensures
