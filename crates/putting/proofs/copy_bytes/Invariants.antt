-- `putting::copy_bytes` meets its contract: after i turns the first i places hold b's.
use Rattle.seq.proofs.Filling.{Filled}
use lib.ListN.{get_or}
use Rattle.putting.proofs.copy_bytes.Given as goal

abbrev pub invariant-loop-i : goal.invariant-loop-i
invariant-loop-i l = Filled (λ k. get_or l.b k 0) l.initial.a l.i l.a
