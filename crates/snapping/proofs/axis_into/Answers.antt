-- `snapping::axis_into` meets its contract: one store into a cleared vector.
use Rattle.snapping.proofs.axis_into.Goals as goal

pub returns : goal.returns
returns c = rw c.fill.ensures
