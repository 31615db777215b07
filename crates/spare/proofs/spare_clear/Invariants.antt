-- `spare::spare_clear` meets its contract: after j turns it says whether the spare bits of the first j columns are clear.
use Prim.Native.Nat.{◌+◌, ◌*◌, ◌-◌}
use mathlib.Core.Path.{◌≡◌}
use mathlib.Core.Bool.{not}
use Rattle.seq.specs.Keep.{all_to}
use Rattle.limits.specs.Votes.{bit_at, bytes_of}
use Rattle.spare.proofs.spare_clear.Given as goal

abbrev pub invariant-loop-j : goal.invariant-loop-j
invariant-loop-j l = l.ok ≡ all_to (λ q. all_to (λ i. not (bit_at l.bits (8 * (q * bytes_of l.n) + l.n + i))) (8 * bytes_of l.n - l.n)) l.j
