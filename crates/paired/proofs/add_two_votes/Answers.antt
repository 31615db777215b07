-- `paired::add_two_votes` meets its contract: the rows are filled already, and the one under them takes the scales' magnitudes.
use mathlib.Core.Path.{subst, sym}
use native.Mathlib.Omega.{arith}
use lib.Dec.{T}
use lib.Ieee.{nan, binary64, fits}
use Rattle.seq.proofs.Filling.{Filled, turn, still, whole}
use Rattle.columns.specs.Kernels.{plus_columns}
use Rattle.staying.specs.Scaling.{scaled_votes}
use Rattle.staying.proofs.VotesRows.{votes_plus_two, votes_under}
use Rattle.votes.proofs.Fronts.{front_as}
use Rattle.paired.proofs.add_two_votes.Goals as goal

pub returns-then-n-acc : goal.returns-then-n-acc
returns-then-n-acc c =
    let a = c.args in
    let s : T (fits binary64 a.s) = subst T (sym c.well_formed.1.1.0.1) tt in
    let t : T (fits binary64 a.t) = subst T (sym c.well_formed.1.1.1.1.1.0.1) tt in
    let p : Filled (plus_columns (scaled_votes a.first.now a.n a.s) a.g (scaled_votes a.second.now a.n a.t) a.h a.acc.now)
    a.acc.now a.n c.add_two_signed.new.acc = front_as a.n (omega (arith, c.requires))
    (votes_plus_two a.first.now a.second.now a.n a.s a.g a.t a.h s t a.acc.now)
    c.add_two_signed.ensures in
    whole (turn p (omega (arith, c.add_two_signed.auto.acc))
    (rw (
      still p (omega (arith, c.add_two_signed.auto.acc)) nan,
      votes_under a.first.now a.n a.s s a.n
          (omega arith),
      votes_under a.second.now a.n a.t t a.n (omega arith),
      c.abs.ensures,
      c.abs-then-n-acc.ensures,
    ))) (omega arith)

pub returns-else-n-acc : goal.returns-else-n-acc
returns-else-n-acc c =
    let a = c.args in
    let s : T (fits binary64 a.s) = subst T (sym c.well_formed.1.1.0.1) tt in
    let t : T (fits binary64 a.t) = subst T (sym c.well_formed.1.1.1.1.1.0.1) tt in
    let p : Filled (plus_columns (scaled_votes a.first.now a.n a.s) a.g (scaled_votes a.second.now a.n a.t) a.h a.acc.now)
    a.acc.now a.n c.add_two_signed.new.acc = front_as a.n (omega (arith, c.requires))
    (votes_plus_two a.first.now a.second.now a.n a.s a.g a.t a.h s t a.acc.now)
    c.add_two_signed.ensures in
    whole p (omega (arith, c.add_two_signed.auto.acc))
