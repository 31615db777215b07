-- `toallowance::to_allowance` meets its contract: the loop stands on the path of the stages, at one that does not close it, each is noted, and the nonzeros
-- fall with
-- each pass.
use mathlib.Core.Bool.{false}
use mathlib.Core.Path.{◌≡◌}
use lib.ListN.{length}
use Rattle.seq.specs.Sums.{plus_zero}
use Rattle.limits.specs.Reading.{read_of}
use Rattle.weights.specs.Weights.{nonzeros}
use Rattle.rules.specs.declared.Rule.TheVariants.{Within}
use Rattle.stages.proofs.Halting.{Falls}
use Rattle.stages.proofs.Following.{OnPath, Written, closes}
use Rattle.toallowance.proofs.to_allowance.Given as goal

abbrev pub invariant-loop-left : goal.invariant-loop-left
invariant-loop-left l =
    OnPath (read_of l.matrix l.bits l.n) l.n l.start l.initial.tally.rng (Within l.allowance l.cap) l.stage l.w l.tally × Falls plus_zero (read_of l.matrix l.bits l.n) l.n l.start l.initial.tally.rng
    × Written (read_of l.matrix l.bits l.n) l.n l.start l.initial.tally.rng l.stage l.nonzeros l.change × (l.left ≡ nonzeros l.w)
    × (closes (read_of l.matrix l.bits l.n) l.n l.start l.initial.tally.rng l.allowance l.cap l.stage ≡ false)
    × (length l.next ≡ length l.initial.next) × (length l.numbers ≡ length l.initial.numbers) × (length l.indices ≡ length l.initial.indices)

abbrev pub decreases-loop-left : goal.decreases-loop-left
decreases-loop-left l =
    nonzeros l.w
