-- `turned::margins_into` meets its contract: after j turns each row has its margin over the first j columns, and a turn adds one term to each.
use mathlib.Core.Path.{◌∙◌}
use Rattle.seq.specs.Sums.{sum_from}
use Rattle.limits.specs.Reading.{read_of}
use Rattle.turned.proofs.MarginMore.{margins-more}
use Rattle.turned.proofs.margins_into.Goals as goal

pub loop-j-init : goal.loop-j-init
unfolding sum_from
loop-j-init c = rw c.fill.auto.a c.fill.ensures

pub loop-j-preserved : goal.loop-j-preserved
loop-j-preserved c =
    let a = c.args in
    let l = c.loop-j in
    c.add_rows.ensures ∙ margins-more (read_of a.matrix.now a.bits.now a.n) a.weights.now a.from l.j _ l.block l.invariant
