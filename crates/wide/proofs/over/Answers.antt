-- `wide::over` meets its contract: a quotient by a product, as `Reciprocal.antt` has it.
use Rattle.wide.proofs.Reciprocal.{half, over_law}
use Rattle.std.proofs.Common.{◌∙◌, arith}
use Rattle.wide.proofs.over.Goals as goal

pub overflow_add-d : goal.overflow_add-d
overflow_add-d c = omega (arith, half c.args.d c.requires.0)

pub returns : goal.returns
returns c = c.upper.ensures ∙ over_law c.args.x c.args.d c.requires.0 c.requires.1
