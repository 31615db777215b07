-- `drawing::draw_into` meets its contract: after i turns the first i places hold the first i draws, and the generator has made them.
use Rattle.seq.proofs.Filling.{start, turn, whole}
use Rattle.direction.specs.Direction.{draw_at, after_draws}
use mathlib.Core.Path.{◌≡◌, refl, ◌∙◌}
use native.Mathlib.Omega.{arith}
use native.Mathlib.Numerals.{add-one}
use lib.ListN.{length}
use Rattle.drawing.proofs.draw_into.Goals as goal

pub loop-x-init : goal.loop-x-init
unfolding after_draws
loop-x-init c = (start _ _, refl)

pub loop-x-preserved : goal.loop-x-preserved
unfolding draw_at after_draws
loop-x-preserved c = (
  turn c.loop-x.invariant.0 (omega arith) (c.gaussian.ensures.0 ∙ rw c.loop-x.invariant.1),
  c.gaussian.ensures.1 ∙ rw (add-one, c.loop-x.invariant.1),
)

pub returns : goal.returns
returns c =
    let done : c.loop-x.x-index ≡ length c.args.g.now = omega arith in
    (whole c.loop-x.invariant.0 (omega arith), rw (← done) c.loop-x.invariant.1)
