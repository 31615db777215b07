-- `reading::add_votes` meets its contract: the rows are filled already, and the one under them takes |s|.
use mathlib.Core.Path.{subst, sym}
use native.Mathlib.Omega.{arith}
use lib.Dec.{T}
use lib.Ieee.{nan, binary64, fits}
use Rattle.seq.proofs.Filling.{Filled, turn, still, whole}
use Rattle.columns.specs.Kernels.{plus_column}
use Rattle.staying.specs.Scaling.{scaled_votes}
use Rattle.staying.proofs.VotesRows.{votes_plus, votes_under}
use Rattle.votes.proofs.Fronts.{front_as}
use Rattle.reading.proofs.add_votes.Goals as goal

pub returns-then-n-acc : goal.returns-then-n-acc
returns-then-n-acc c =
    let a = c.args in
    let s : T (fits binary64 a.s) = subst T (sym c.well_formed.1.1.1.0.1) tt in
    let p : Filled (plus_column (scaled_votes a.column.now a.n a.s) a.g a.acc.now) a.acc.now a.n
    c.add_signed.new.acc = front_as a.n (omega (arith, c.requires)) (votes_plus a.column.now a.n a.s s a.g a.acc.now)
    c.add_signed.ensures in
    whole (turn p (omega (arith, c.add_signed.auto.acc))
    (rw (
      still p (omega (arith, c.add_signed.auto.acc)) nan,
      votes_under a.column.now a.n a.s s a.n
          (omega arith),
      c.abs.ensures,
    ))) (omega arith)

pub returns-else-n-acc : goal.returns-else-n-acc
returns-else-n-acc c = let a = c.args in
    let s : T (fits binary64 a.s) = subst T (sym c.well_formed.1.1.1.0.1) tt in
    let p : Filled (plus_column (scaled_votes a.column.now a.n a.s) a.g a.acc.now) a.acc.now a.n
    c.add_signed.new.acc = front_as a.n (omega (arith, c.requires))
    (votes_plus a.column.now a.n a.s s a.g a.acc.now) c.add_signed.ensures in
    whole p (omega (arith, c.add_signed.auto.acc))
