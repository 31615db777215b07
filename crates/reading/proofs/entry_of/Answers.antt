-- `reading::entry_of` meets its contract: within the rows of a column of bits stands the scale, signed by a bit.
use Prim.Native.Nat.{ℕ, ◌*◌, ◌/◌, ◌<◌}
use mathlib.Core.Path.{sym, ap, subst, ◌∙◌}
use mathlib.Core.List.{List}
use native.Mathlib.Omega.{arith}
use lib.Dec.{T}
use lib.Ieee.{binary64, fits}
use lib.ListN.{length, get_or}
use Rattle.std.proofs.lemmas.Bool.Decides.{nat_tests}
use Rattle.seq.proofs.Parts.{get_d_part}
use Rattle.limits.specs.Votes.{bytes_of}
use Rattle.reading.proofs.Lent.{vote_entry}
use Rattle.reading.proofs.entry_of.Goals as goal

pub returns : goal.returns
returns c =
    let a = c.args in
    let s : T (fits binary64 a.s) = subst T (sym c.well_formed.1.1.1.1.0.1) tt in
    let some : 0 < length a.bits.now = grind (arith, nat_tests) in
    vote_entry a.matrix.now a.bits.now a.n a.j a.i _ _ a.s some s (omega arith)
    (c.from.ensures ∙ ap (λ (l : List ℕ). get_or l (a.i / 8) 0) c.votes_of.ensures.column
    ∙ get_d_part (a.j * bytes_of a.n) (bytes_of a.n) (a.i / 8) a.bits.now 0 (omega arith))
    c.bit.ensures
