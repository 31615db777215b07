-- `doubling::remaining_into` meets its contract: after some turns out holds those of the first indices whose weights are not 0.
use Prim.Native.Nat.{◌≤◌}
use Rattle.seq.specs.Indices.{Pushed}
use Rattle.weights.specs.Weights.{is_on}
use Rattle.doubling.specs.Doubling.{those_to}
use Rattle.doubling.proofs.remaining_into.Given as goal

abbrev pub invariant-loop-j : goal.invariant-loop-j
invariant-loop-j l = Pushed (those_to (is_on l.w) l.rest l.j-index) l.k l.out × (l.k ≤ l.j-index)
