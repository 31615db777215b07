-- `polls::change_fault` meets its contract: the sizes are tested before the spare bits.
use Rattle.pollfaults.proofs.Refusals.{poll_sizes}
use mathlib.Core.Path.{sym}
use Rattle.polls.proofs.change_fault.Goals as goal

pub spare_fault-requires : goal.spare_fault-requires
spare_fault-requires c =
    let s = poll_sizes _ _ _ _ _ (sym c.in_ok-poll_fault.ensures) in
    (s.columns.columns, s.columns.rows, s.area)
