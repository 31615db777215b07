-- `basis::pass` meets its contract: after k turns the first k vectors are projected out, and c is what is left along the next.
use Prim.Native.Nat.{◌*◌, ◌<◌}
use mathlib.Core.Path.{◌≡◌}
use lib.ListN.{length}
use Rattle.seq.specs.Lists.{part}
use Rattle.seq.specs.Sums.{plus_zero}
use Rattle.linear.specs.Vectors.{dot_of}
use Rattle.basis.specs.Basis.{pass_to}
use Rattle.basis.specs.Held.{vectors_in}
use Rattle.basis.proofs.pass.Given as goal

abbrev pub invariant-loop-k : goal.invariant-loop-k
invariant-loop-k l =
    (l.k < l.count) × (length l.v ≡ l.l) × (l.v ≡ pass_to plus_zero (vectors_in l.l l.count l.basis) l.initial.v l.k) × (l.c ≡ dot_of plus_zero (part (l.k * l.l) l.l l.basis) l.v)
