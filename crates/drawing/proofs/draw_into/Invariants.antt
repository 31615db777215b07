-- `drawing::draw_into` meets its contract: after i turns the first i places hold the first i draws, and the generator has made them.
use Rattle.seq.proofs.Filling.{Filled}
use Rattle.direction.specs.Direction.{draw_at, after_draws}
use mathlib.Core.Path.{◌≡◌}
use Rattle.drawing.proofs.draw_into.Given as goal

abbrev pub invariant-loop-x : goal.invariant-loop-x
invariant-loop-x l = Filled (draw_at l.initial.rng) l.initial.g l.x-index l.g × (l.rng ≡ after_draws l.initial.rng l.x-index)
