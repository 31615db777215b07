-- `entries::norms_into` meets its contract: of bits every row has the sum of the scales' squares.
use Prim.Native.Nat.{◌<◌}
use mathlib.Core.Path.{ap, ◌∙◌}
use native.Mathlib.Omega.{arith}
use lib.Ieee.{Float}
use lib.ListN.{length}
use Rattle.std.proofs.lemmas.Bool.Decides.{nat_tests}
use Rattle.seq.specs.Lists.{repeated}
use Rattle.seq.specs.Sums.{sum_to, plus_zero, product}
use Rattle.linear.specs.Vectors.{dot_of}
use Rattle.entries.proofs.Reading.{same_norms}
use Rattle.entries.proofs.norms_into.Goals as goal

pub returns-else-is_empty : goal.returns-else-is_empty
unfolding dot_of
returns-else-is_empty c =
    let a = c.args in
    let some : 0 < length a.bits.now = grind (arith, nat_tests) in
    c.fill.ensures ∙ ap (λ (x : Float). repeated x (length a.acc.now))
    (c.dot.ensures ∙ ap (sum_to plus_zero (product a.scale.now a.scale.now)) c.requires.paired)
    ∙ same_norms plus_zero a.matrix.now a.bits.now a.n a.cols.now a.scale.now (length a.cols.now) (length a.acc.now) some c.type_inv.scale
