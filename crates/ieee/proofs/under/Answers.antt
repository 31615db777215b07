-- `ieee::under` meets its contract: it is the comparison of what `abs` gives.
use mathlib.Core.Path.{ap}
use lib.Ieee.{Float, lt}
use Rattle.ieee.proofs.under.Goals as goal

pub returns : goal.returns
returns c = ap (λ (y : Float). lt y c.args.t) c.abs.ensures
