-- `lessening::stays_below_of` meets its contract: the column that is lent, doubles or bits, is the matrix's column j.
use Prim.Native.Nat.{ℕ, ◌<◌}
use mathlib.Core.Path.{◌≡◌, ap, ◌∙◌}
use native.Mathlib.Omega.{arith}
use lib.Ieee.{Float, lt}
use lib.ListN.{length}
use Rattle.std.proofs.lemmas.Bool.Decides.{nat_tests}
use Rattle.ieee.specs.Magnitude.{max_abs_to}
use Rattle.columns.specs.Kernels.{less_column}
use Rattle.reading.proofs.Lent.{doubles_are, votes_are}
use Rattle.lessening.proofs.stays_below_of.Goals as goal

pub returns-then-is_empty : goal.returns-then-is_empty
returns-then-is_empty c =
    let a = c.args in
    let none : length a.bits.now ≡ 0 = grind (arith, nat_tests) in
    rw c.doubles_of.ensures.column at c.stays_below.ensures
    ∙ ap (λ (col : ℕ → Float). lt (max_abs_to (less_column col a.t a.ax.now) (length a.ax.now)) a.bound)
    (doubles_are a.matrix.now a.bits.now a.n a.j a.s none (c.requires.0.doubles none))

pub returns-else-is_empty : goal.returns-else-is_empty
returns-else-is_empty c =
    let a = c.args in
    let some : 0 < length a.bits.now = grind (arith, nat_tests) in
    rw c.votes_of.ensures.column at c.votes_stay_below.ensures
    ∙ ap (λ (col : ℕ → Float). lt (max_abs_to (less_column col a.t a.ax.now) (length a.ax.now)) a.bound)
    (votes_are a.matrix.now a.bits.now a.n a.j a.s some)
