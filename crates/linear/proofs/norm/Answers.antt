-- `linear::norm` meets its contract: the root of what `dot` gives.
use Rattle.linear.specs.Vectors.{norm_of}
use Rattle.root.specs.Root.{sqrt_of}
use mathlib.Core.Path.{ap, ◌∙◌}
use Rattle.linear.proofs.norm.Goals as goal

pub returns : goal.returns
unfolding norm_of
returns c = c.sqrt.ensures ∙ ap sqrt_of c.dot.ensures
