-- `basis::project_out` meets its contract: two passes, one after the other.
use Rattle.basis.proofs.Bases.{two-passes}
use Rattle.basis.proofs.project_out.Goals as goal

pub returns : goal.returns
returns c =
    let a = c.args in two-passes _ a.l a.count a.basis.now a.v.now _ _ c.pass.ensures c.pass-2.ensures
