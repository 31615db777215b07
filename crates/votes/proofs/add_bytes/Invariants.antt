-- `votes::add_bytes` meets its contract: each turn fills the eight rows of a byte.
use Prim.Native.Nat.{◌*◌}
use Rattle.seq.proofs.Filling.{Filled}
use Rattle.votes.specs.Signing.{signed_at}
use Rattle.votes.proofs.add_bytes.Given as goal

abbrev pub invariant-loop-i : goal.invariant-loop-i
invariant-loop-i l = Filled (signed_at l.column l.t l.initial.acc) l.initial.acc (8 * l.i) l.acc
