-- `marking::place` meets its contract: after k turns the first k places hold their changes.
use mathlib.Core.Path.{refl}
use native.Mathlib.Omega.{arith}
use Rattle.seq.proofs.Filling.{start, turn}
use Rattle.arranged.proofs.Occurrences.{below_at}
use Rattle.marking.proofs.place.Goals as goal

pub loop-k-init : goal.loop-k-init
loop-k-init c = start _ _

pub bounds-keys-rows : goal.bounds-keys-rows
bounds-keys-rows c =
    below_at c.requires.1 c.loop-k.k (omega arith)

pub loop-k-preserved : goal.loop-k-preserved
loop-k-preserved c =
    turn c.loop-k.invariant (omega arith) refl
