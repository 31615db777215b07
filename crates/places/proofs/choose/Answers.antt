-- `places::choose` meets its contract: a loop that fills, with the elements at the places.
use native.Mathlib.Omega.{arith}
use mathlib.Core.Path.{◌∙◌}
use Rattle.std.proofs.lemmas.List.{get_or_default}
use Rattle.seq.proofs.Filling.{start, turn, whole}
use Rattle.places.proofs.choose.Goals as goal

pub loop-p-init : goal.loop-p-init
loop-p-init g c = λ d. start _ _

pub loop-p-preserved : goal.loop-p-preserved
loop-p-preserved g c = λ d. turn (c.loop-p.invariant d) (omega arith) (c.index-v-j.is ∙ get_or_default c.args.v.now _ _ d (c.requires.1.below _ c.loop-p-test.true))

pub returns : goal.returns
returns g c = λ d. rw (← c.requires.0) (whole (c.loop-p.invariant d) (omega arith))
