-- `write_losses`: the lines of the lost ones of the first i are written.
use Rattle.std.proofs.Common.{◌-◌, ◌≤◌}
use Rattle.std.specs.Io.KnownBytes.{Appends}
use Rattle.keeping.specs.Saved.{lost_text}
use Rattle.keeping.specs.Steps.{kept_in}
use Rattle.salvage.proofs.write_losses.Given as goal

abbrev pub invariant-loop-i : goal.invariant-loop-i
invariant-loop-i g l =
    (l.i ≤ l.k)
    × Appends (g.W.Write.contents l.initial.output) (g.W.Write.contents l.output) (lost_text (kept_in l.s l.marks) 1 l.i)

abbrev pub decreases-loop-i : goal.decreases-loop-i
decreases-loop-i g l = l.k - l.i
