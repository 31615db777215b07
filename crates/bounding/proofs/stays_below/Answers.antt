-- `bounding::stays_below` meets its contract: while the loop runs the largest magnitude of the rows so far is below the bound, and the first row that is
-- not settles it.
use Prim.Native.Nat.{◌+◌}
use mathlib.Core.Path.{◌≡◌, sym, subst, ◌∙◌}
use native.Mathlib.Omega.{arith}
use mathlib.Core.Bool.{true, false}
use lib.Dec.{T}
use lib.Ieee.{binary64, le}
use lib.Ieee.Fits.{sub-fits}
use Rattle.ieee.specs.Magnitude.{abs_of, max_abs_to}
use Rattle.columns.specs.Columns.{scaled_at}
use Rattle.columns.specs.Kernels.{less_column}
use Rattle.columns.proofs.Scaled.{scaled_own, scaled_under}
use Rattle.columns.proofs.Bounding.{not_below, never_below, still_below, last-below}
use lib.ListN.{length}
use Rattle.bounding.proofs.stays_below.Goals as goal

pub returns-then-not-bound : goal.returns-then-not-bound
returns-then-not-bound c =
    let a = c.args in
    sym (never_below (less_column (scaled_at a.column.now a.s) a.t a.ax.now) (λ j. sub-fits binary64 _ _) a.bound
    (subst T (sym c.well_formed.1.1.1.1.0.1) tt) _ c.if-not-bound.true)

pub loop-i-init : goal.loop-i-init
loop-i-init c = unfold max_abs_to in c.if-not-bound.false

pub returns-then-abs-bound : goal.returns-then-abs-bound
returns-then-abs-bound c =
    let a = c.args in
    let i = c.loop-i.i in
    let e : le a.bound (abs_of (less_column (scaled_at a.column.now a.s) a.t a.ax.now i)) ≡ true =
    rw (scaled_own a.column.now a.s i (omega arith), ← c.abs.ensures)
    c.if-abs-bound.true in
    sym (not_below (less_column (scaled_at a.column.now a.s) a.t a.ax.now) (λ j. sub-fits binary64 _ _) a.bound
    (subst T (sym c.well_formed.1.1.1.1.0.1) tt) i _ (omega arith) e)

pub loop-i-preserved : goal.loop-i-preserved
loop-i-preserved c =
    let a = c.args in
    let i = c.loop-i.i in
    let e : le a.bound (abs_of (less_column (scaled_at a.column.now a.s) a.t a.ax.now i)) ≡ false =
    rw (scaled_own a.column.now a.s i (omega arith), ← c.abs.ensures)
    c.if-abs-bound.false in
    still_below (less_column (scaled_at a.column.now a.s) a.t a.ax.now) (λ j. sub-fits binary64 _ _) a.bound
    (subst T (sym c.well_formed.1.1.1.1.0.1) tt) i c.loop-i.invariant e

pub returns-then-under-ax : goal.returns-then-under-ax
returns-then-under-ax c =
    let a = c.args in
    let i = c.loop-i.i in
    let all : length a.ax.now ≡ i + 1 = omega arith in
    let under : i ≡ length a.column.now = omega arith in
    let e : c.abs-then-under-ax-2.result ≡ abs_of (less_column (scaled_at a.column.now a.s) a.t a.ax.now i) =
    c.abs-then-under-ax-2.ensures ∙ rw (scaled_under a.column.now a.s i (omega arith), ← under, c.abs-then-under-ax.ensures) in
    rw (e, all) (last-below (less_column (scaled_at a.column.now a.s) a.t a.ax.now) (λ j. sub-fits binary64 _ _)
    a.bound (subst T (sym c.well_formed.1.1.1.1.0.1) tt) i c.loop-i.invariant)

pub returns : goal.returns
returns c =
    let all : c.loop-i.i ≡ length c.args.ax.now = omega arith in
    sym (rw (← all) c.loop-i.invariant)
