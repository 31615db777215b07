-- `staying::votes_stay_below` meets its contract: the rows that `rows_below` passed are below the bound, and the loop goes on from there.
use Prim.Native.Nat.{◌+◌, ◌≤◌}
use mathlib.Core.Bool.{true, false}
use mathlib.Core.Path.{subst, ◌≡◌, refl, sym, ap, ◌∙◌}
use native.Mathlib.Omega.{arith}
use lib.Ieee.Fits.{sub-fits}
use lib.Dec.{T}
use lib.Ieee.{Float, binary64, fits, mul, lt, le}
use lib.ListN.{length}
use Rattle.ieee.specs.Magnitude.{abs_of}
use Rattle.columns.proofs.Bounding.{not_below, never_below, still_below, last-below}
use Rattle.columns.specs.Kernels.{less_column}
use Rattle.staying.specs.Scaling.{scaled_votes}
use Rattle.staying.specs.Below.{less_signed}
use Rattle.staying.proofs.Under.{max_cong}
use Rattle.votes.proofs.Bytes.{either_row}
use Rattle.staying.proofs.VotesRows.{votes_row, votes_under}
use Rattle.staying.proofs.votes_stay_below.Goals as goal

pub returns-then-not-bound : goal.returns-then-not-bound
returns-then-not-bound c = let a = c.args in
    let s : T (fits binary64 a.s) = subst T (sym c.well_formed.1.1.1.0.1) tt in
    let b : T (fits binary64 a.bound) = subst T (sym c.well_formed.1.1.1.1.1.0.1) tt in
    sym (never_below (less_column (scaled_votes a.column.now a.n a.s) a.t a.ax.now) (λ j. sub-fits binary64 _ _) a.bound b _
    c.if-not-bound.true)

pub loop-i-init : goal.loop-i-init
loop-i-init c = let a = c.args in
    let s : T (fits binary64 a.s) = subst T (sym c.well_formed.1.1.1.0.1) tt in
    let b : T (fits binary64 a.bound) = subst T (sym c.well_formed.1.1.1.1.1.0.1) tt in
    let low : c.rows_below-passed.result ≤ a.n = omega (arith, c.rows_below-passed.ensures.0) in
    ap (λ (z : Float). lt z a.bound) (sym (max_cong (less_signed a.column.now (mul binary64 a.t a.s) a.ax.now)
    (less_column (scaled_votes a.column.now a.n a.s) a.t a.ax.now) c.rows_below-passed.result
    (λ i l. votes_row a.column.now a.n a.s s a.t a.ax.now i _ (omega arith) refl))) ∙ c.rows_below-passed.ensures.1

pub returns-then-abs-bound : goal.returns-then-abs-bound
returns-then-abs-bound c =
    let a = c.args in
    let s : T (fits binary64 a.s) = subst T (sym c.well_formed.1.1.1.0.1) tt in
    let b : T (fits binary64 a.bound) = subst T (sym c.well_formed.1.1.1.1.1.0.1) tt in
    let i = c.loop-i.i in
    let r = either_row (mul binary64 a.t a.s) a.column.now i c.from.result c.bit.result c.from.ensures
    c.bit.ensures in
    let e : le a.bound (abs_of (less_column (scaled_votes a.column.now a.n a.s) a.t a.ax.now i))
    ≡ true = rw (← votes_row a.column.now a.n a.s s a.t a.ax.now i _ c.loop-i-test.true r, ← c.abs.ensures)
    c.if-abs-bound.true in
    sym (not_below (less_column (scaled_votes a.column.now a.n a.s) a.t a.ax.now) (λ j. sub-fits binary64 _ _) a.bound b i _ (omega arith) e)

pub loop-i-preserved : goal.loop-i-preserved
loop-i-preserved c =
    let a = c.args in
    let s : T (fits binary64 a.s) = subst T (sym c.well_formed.1.1.1.0.1) tt in
    let b : T (fits binary64 a.bound) = subst T (sym c.well_formed.1.1.1.1.1.0.1) tt in
    let i = c.loop-i.i in
    let r = either_row (mul binary64 a.t a.s) a.column.now i c.from.result c.bit.result c.from.ensures
    c.bit.ensures in
    let e : le a.bound (abs_of (less_column (scaled_votes a.column.now a.n a.s) a.t a.ax.now i))
    ≡ false = rw (← votes_row a.column.now a.n a.s s a.t a.ax.now i _ c.loop-i-test.true r, ← c.abs.ensures)
    c.if-abs-bound.false in
    still_below (less_column (scaled_votes a.column.now a.n a.s) a.t a.ax.now) (λ j. sub-fits binary64 _ _) a.bound b i
    c.loop-i.invariant e

pub returns-then-n-ax : goal.returns-then-n-ax
returns-then-n-ax c =
    let a = c.args in
    let s : T (fits binary64 a.s) = subst T (sym c.well_formed.1.1.1.0.1) tt in
    let b : T (fits binary64 a.bound) = subst T (sym c.well_formed.1.1.1.1.1.0.1) tt in
    let done : c.loop-i.i ≡ a.n = omega (arith, c.rows_below-passed.ensures.0) in
    let all : length a.ax.now ≡ a.n + 1 = omega arith in
    let e : c.abs-then-n-ax-2.result ≡ abs_of (less_column (scaled_votes a.column.now a.n a.s) a.t a.ax.now a.n) = c.abs-then-n-ax-2.ensures
    ∙ rw (votes_under a.column.now a.n a.s s a.n (omega arith), c.abs-then-n-ax.ensures) in
    rw (e, all) (last-below (less_column (scaled_votes a.column.now a.n a.s) a.t a.ax.now) (λ j. sub-fits binary64 _ _) a.bound b a.n
    (rw done at c.loop-i.invariant))
