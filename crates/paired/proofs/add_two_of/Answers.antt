-- `paired::add_two_of` meets its contract: the columns that are lent, doubles or bits, are the matrix's columns j and k.
use Prim.Native.Nat.{ℕ, ◌*◌, ◌<◌}
use mathlib.Core.Path.{◌≡◌, ap, ◌∙◌}
use native.Mathlib.Omega.{arith}
use lib.Ieee.{Float}
use lib.ListN.{length}
use Rattle.std.proofs.lemmas.Bool.Decides.{nat_tests}
use Rattle.seq.specs.Lists.{tabulate, part}
use Rattle.limits.specs.Votes.{bytes_of}
use Rattle.limits.specs.Reading.{read_of}
use Rattle.columns.specs.Columns.{scaled_at}
use Rattle.columns.specs.Kernels.{plus_columns}
use Rattle.staying.specs.Scaling.{scaled_by, scaled_votes}
use Rattle.reading.proofs.Lent.{doubles_are, votes_are}
use Rattle.paired.proofs.add_two_of.Goals as goal

pub returns-then-is_empty : goal.returns-then-is_empty
returns-then-is_empty c =
    let a = c.args in
    let matrix = a.matrix.now in
    let bits = a.bits.now in
    let none : length bits ≡ 0 = grind (arith, nat_tests) in
    rw (c.doubles_of.ensures.column, c.doubles_of-then-is_empty.ensures.column) at c.add_two.ensures
    ∙ ap (λ (col : ℕ → Float). tabulate (plus_columns col a.g (scaled_at (part (a.k * a.n) a.n matrix) a.t) a.h a.acc.now)
    (length a.acc.now))
    (doubles_are matrix bits a.n a.j a.s none (c.requires.0.doubles none))
    ∙ ap (λ (col : ℕ → Float). tabulate (plus_columns (scaled_by (read_of matrix bits a.n a.j) a.n a.s) a.g col a.h a.acc.now)
    (length a.acc.now))
    (doubles_are matrix bits a.n a.k a.t none (c.requires.1.doubles none))

pub returns-else-is_empty : goal.returns-else-is_empty
returns-else-is_empty c =
    let a = c.args in
    let matrix = a.matrix.now in
    let bits = a.bits.now in
    let some : 0 < length bits = grind (arith, nat_tests) in
    rw (c.votes_of.ensures.column, c.votes_of-else-is_empty.ensures.column) at c.add_two_votes.ensures
    ∙ ap (λ (col : ℕ → Float). tabulate (plus_columns col a.g (scaled_votes (part (a.k * bytes_of a.n) (bytes_of a.n) bits) a.n a.t) a.h
    a.acc.now) (length a.acc.now)) (votes_are matrix bits a.n a.j a.s some)
    ∙ ap (λ (col : ℕ → Float). tabulate (plus_columns (scaled_by (read_of matrix bits a.n a.j) a.n a.s) a.g col a.h a.acc.now)
    (length a.acc.now)) (votes_are matrix bits a.n a.k a.t some)
