-- `ieee::at_most` meets its contract: it is the comparison of what `abs` gives.
use mathlib.Core.Path.{ap}
use lib.Ieee.{Float, le}
use Rattle.ieee.proofs.at_most.Goals as goal

pub returns : goal.returns
returns c = ap (λ (y : Float). le y c.args.t) c.abs.ensures
