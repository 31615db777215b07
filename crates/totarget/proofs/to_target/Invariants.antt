-- `totarget::to_target` meets its contract: the loop stands on the path of the stages, none of which has stopped, each is noted, and the nonzeros fall with
-- each pass.
use mathlib.Core.Path.{◌≡◌}
use lib.ListN.{length}
use Rattle.seq.specs.Sums.{plus_zero}
use Rattle.limits.specs.Reading.{read_of}
use Rattle.weights.specs.Weights.{nonzeros}
use Rattle.rules.specs.declared.Rule.TheVariants.{Target}
use Rattle.stages.proofs.Halting.{Falls}
use Rattle.stages.proofs.Following.{OnPath, Written}
use Rattle.totarget.proofs.to_target.Given as goal

abbrev pub invariant-loop-left : goal.invariant-loop-left
invariant-loop-left l =
    OnPath (read_of l.matrix l.bits l.n) l.n l.start l.initial.tally.rng (Target l.target) l.stage l.w l.tally × Falls plus_zero (read_of l.matrix l.bits l.n) l.n l.start l.initial.tally.rng
    × Written (read_of l.matrix l.bits l.n) l.n l.start l.initial.tally.rng l.stage l.nonzeros l.change × (l.left ≡ nonzeros l.w)
    × (length l.numbers ≡ length l.initial.numbers) × (length l.indices ≡ length l.initial.indices)

abbrev pub decreases-loop-left : goal.decreases-loop-left
decreases-loop-left l = nonzeros l.w
