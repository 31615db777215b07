-- `spare::clear_from` meets its contract: after i turns it says whether the first i bits are clear.
use Prim.Native.Nat.{◌+◌}
use mathlib.Core.Path.{◌≡◌}
use mathlib.Core.Bool.{not}
use Rattle.seq.specs.Keep.{all_to}
use Rattle.limits.specs.Votes.{bit_at}
use Rattle.spare.proofs.clear_from.Given as goal

abbrev pub invariant-loop-i : goal.invariant-loop-i
invariant-loop-i l = l.ok ≡ all_to (λ j. not (bit_at l.bits (l.from + j))) l.i
