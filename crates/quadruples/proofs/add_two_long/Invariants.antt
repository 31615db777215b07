-- `quadruples::add_two_long` meets its contract: each turn fills the eight rows of a byte, from the tables of quadruples.
use Prim.Native.Nat.{◌*◌}
use Rattle.seq.proofs.Filling.{Filled}
use Rattle.votes.specs.Signing.{signed_two}
use Rattle.quadruples.proofs.add_two_long.Given as goal

abbrev pub invariant-loop-i : goal.invariant-loop-i
invariant-loop-i l = Filled (signed_two l.first l.t l.second l.u l.initial.acc) l.initial.acc (8 * l.i) l.acc
