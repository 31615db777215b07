-- `reading::add_column_of` meets its contract: the column of bits that is lent is the matrix's column j.
use Prim.Native.Nat.{ℕ, ◌<◌}
use mathlib.Core.Path.{ap, ◌∙◌}
use native.Mathlib.Omega.{arith}
use lib.Ieee.{Float}
use lib.ListN.{length}
use Rattle.std.proofs.lemmas.Bool.Decides.{nat_tests}
use Rattle.seq.specs.Lists.{tabulate}
use Rattle.columns.specs.Kernels.{plus_column}
use Rattle.reading.proofs.Lent.{votes_are}
use Rattle.reading.proofs.add_column_of.Goals as goal

pub returns-else-is_empty : goal.returns-else-is_empty
returns-else-is_empty c =
    let a = c.args in
    let some : 0 < length a.bits.now = grind (arith, nat_tests) in
    rw c.votes_of.ensures.column at c.add_votes.ensures
    ∙ ap (λ (col : ℕ → Float). tabulate (plus_column col a.g a.acc.now) (length a.acc.now)) (votes_are a.matrix.now a.bits.now a.n a.j a.s some)
