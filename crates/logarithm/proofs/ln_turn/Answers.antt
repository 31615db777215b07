-- `logarithm::ln_turn` meets its contract: the power by its divisor fits beside the sum.
use mir.Facts.{Fits-bits}
use Rattle.logarithm.proofs.LnTurns.{sum_fits}
use Rattle.logarithm.proofs.ln_turn.Goals as goal

pub overflow_add-result : goal.overflow_add-result
overflow_add-result c =
    let pre = c.requires in
    Fits-bits 64 tt (sum_fits _ _ _ _ pre.sum_fits pre.power-fits c.over.ensures)
