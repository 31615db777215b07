-- `doubling::scales_into` meets its contract: the loop fills from the front with weights over ω.
use Rattle.seq.proofs.Filling.{Filled}
use Rattle.doubling.specs.Doubling.{scale_at}
use Rattle.doubling.proofs.scales_into.Given as goal

abbrev pub invariant-loop-p : goal.invariant-loop-p
invariant-loop-p l = Filled (scale_at l.w l.omega l.rest) l.initial.scale l.p l.scale
