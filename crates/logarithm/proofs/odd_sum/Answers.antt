-- `logarithm::odd_sum` meets its contract: the sum to the power by 33 is the whole sum.
use native.Mathlib.Omega.{arith}
use lib.Dec.{lit≤, lit<}
use mir.Facts.{Fits-bits}
use Rattle.logarithm.specs.Turns.{LnReady}
use Rattle.logarithm.proofs.Logs.{q_half}
use Rattle.logarithm.proofs.LnTurns.{ready, sum_fits, summed}
use Rattle.logarithm.proofs.odd_sum.Goals as goal

pub over-requires : goal.over-requires
over-requires c =
    let pre : LnReady 33 c.ln_terms-o.result = ready 16 (lit≤ tt) (lit< tt) (q_half c.args.q c.requires) c.ln_terms-o.ensures in
    (omega arith, omega (arith, pre.power-fits))

pub overflow_add-result : goal.overflow_add-result
overflow_add-result c =
    let pre : LnReady 33 c.ln_terms-o.result = ready 16 (lit≤ tt) (lit< tt) (q_half c.args.q c.requires) c.ln_terms-o.ensures in
    Fits-bits 64 tt (sum_fits _ _ _ _ pre.sum_fits pre.power-fits c.over.ensures)

pub returns : goal.returns
returns c = summed _ c.requires c.ln_terms-o.ensures c.over.ensures
