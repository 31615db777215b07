-- `drawing::direct` meets its contract: the law `directs`, at what the two norms, the projection and the zeroing ensure.
use Rattle.direction.proofs.Turning.{directs}
use Rattle.basis.specs.Held.{vectors_in}
use Rattle.drawing.proofs.direct.Goals as goal

pub returns : goal.returns
returns c =
    let a = c.args in
    directs _ (vectors_in a.l a.count a.basis.now) a.free.now a.g.now _ _ _ _
    c.norm-drawn_norm.ensures c.project_out.ensures c.zero_frozen.ensures c.norm.ensures
