-- `rows::add_two_rows` meets its contract: the parts that are lent, doubles or bits, have the columns' rows.
use Prim.Native.Nat.{◌+◌, ◌*◌, ◌/◌, ◌<◌}
use mathlib.Core.Path.{◌≡◌, refl, sym, subst, ◌∙◌}
use native.Mathlib.Omega.{arith}
use lib.Dec.{T}
use lib.Ieee.{binary64, fits}
use lib.ListN.{length}
use Rattle.std.proofs.lemmas.Bool.Decides.{nat_tests}
use Rattle.limits.specs.Votes.{bytes_of}
use Rattle.rows.proofs.Columns.{two_of_doubles, two_of_votes}
use Rattle.rows.proofs.add_two_rows.Goals as goal

pub returns-then-is_empty : goal.returns-then-is_empty
returns-then-is_empty c =
    let a = c.args in
    let none : length a.bits.now ≡ 0 = grind (arith, nat_tests) in
    rw (c.doubles_from-first.ensures.rows, c.doubles_from-second.ensures.rows) at c.add_two_scaled.ensures
    ∙ two_of_doubles a.matrix.now a.bits.now a.n a.from a.j a.s a.block.now a.p a.t none

pub returns-else-is_empty : goal.returns-else-is_empty
returns-else-is_empty c =
    let a = c.args in
    let s : T (fits binary64 a.s) = subst T (sym c.well_formed.1.1.1.1.1.1.0.1) tt in
    let t : T (fits binary64 a.t) = subst T (sym c.well_formed.1.1.1.1.1.1.1.1.0.1) tt in
    let some : 0 < length a.bits.now = grind (arith, nat_tests) in
    two_of_votes a.matrix.now a.bits.now a.n a.from a.j a.s a.block.now a.p a.t
    (a.j * bytes_of a.n + a.from / 8) (a.p * bytes_of a.n + a.from / 8) (bytes_of (length a.block.now)) some s t c.requires.4
    refl refl (omega arith) _ (rw (c.votes_from-first.ensures.rows, c.votes_from-second.ensures.rows) at c.add_two_signed.ensures)
