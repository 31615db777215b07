-- `bitfaults::votes_fault` meets its contract: the sizes are tested before the spare bits.
use mathlib.Core.Path.{sym}
use Rattle.bitfaults.proofs.Expanded.{bytes_fine}
use Rattle.bitfaults.proofs.votes_fault.Goals as goal

pub spare_clear-requires : goal.spare_clear-requires
spare_clear-requires c =
    let s = bytes_fine _ _ _ _ _ _ _ (sym c.in_ok-bytes_fault.ensures) in
    (s.few, s.short, s.whole)
