-- `rows::add_rows` meets its contract: the part that is lent, doubles or bits, has the column's rows.
use Prim.Native.Nat.{◌+◌, ◌*◌, ◌/◌, ◌<◌}
use mathlib.Core.Path.{◌≡◌, refl, sym, subst, ◌∙◌}
use native.Mathlib.Omega.{arith}
use lib.Dec.{T}
use lib.Ieee.{binary64, fits}
use lib.ListN.{length}
use Rattle.std.proofs.lemmas.Bool.Decides.{nat_tests}
use Rattle.limits.specs.Votes.{bytes_of}
use Rattle.rows.proofs.Columns.{rows_of_doubles, rows_of_votes}
use Rattle.rows.proofs.add_rows.Goals as goal

pub returns-then-is_empty : goal.returns-then-is_empty
returns-then-is_empty c =
    let a = c.args in
    let none : length a.bits.now ≡ 0 = grind (arith, nat_tests) in
    rw c.doubles_from.ensures.rows at c.add_scaled.ensures
    ∙ rows_of_doubles a.matrix.now a.bits.now a.n a.from a.j a.s a.block.now none

pub returns-else-is_empty : goal.returns-else-is_empty
returns-else-is_empty c =
    let a = c.args in
    let s : T (fits binary64 a.s) = subst T (sym c.well_formed.1.1.1.1.1.1.0.1) tt in
    let some : 0 < length a.bits.now = grind (arith, nat_tests) in
    rows_of_votes a.matrix.now a.bits.now a.n a.from a.j a.s a.block.now
    (a.j * bytes_of a.n + a.from / 8) (bytes_of (length a.block.now)) some s c.requires.3 refl (omega arith) _
    (rw c.votes_from.ensures.rows at c.add_signed.ensures)
