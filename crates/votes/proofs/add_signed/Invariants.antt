-- `votes::add_signed` meets its contract: whatever vector the bytes were filled into, the loop fills on.
use Prim.Native.Nat.{◌≤◌}
use mathlib.Core.List.{List}
use lib.Ieee.{Float}
use lib.ListN.{length}
use Rattle.seq.proofs.Filling.{Filled}
use Rattle.votes.specs.Signing.{signed_at}
use Rattle.votes.proofs.add_signed.Given as goal

abbrev pub invariant-loop-i : goal.invariant-loop-i
invariant-loop-i l = (w : List Float) → l.n ≤ length w → Filled (signed_at l.column l.t w) w l.initial.i l.initial.acc
    → Filled (signed_at l.column l.t w) w l.i l.acc
