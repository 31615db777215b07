-- `logarithm::long_division` meets its contract: after k steps of long division the quotient and the rest are those of f * 1024 ^ k.
use Prim.Native.Nat.{◌+◌, ◌*◌, ◌/◌, ◌%◌, ◌^◌}
use mathlib.Core.Path.{◌≡◌}
use Rattle.logarithm.proofs.long_division.Given as goal

abbrev pub invariant-loop-k : goal.invariant-loop-k
invariant-loop-k l = (l.q ≡ l.f * 1024 ^ l._k / (l.f + 2 ^ 53)) × (l.rest ≡ l.f * 1024 ^ l._k % (l.f + 2 ^ 53))
