-- What holds of the arguments of a colouring that is not refused: no test of `coloring_fault` held, so the sizes fit.
use borrow.Author.Tests.{eqb-true, not-false}
use Prim.Native.Nat.{ℕ, ◌+◌, ◌*◌, ◌≤◌}
use mathlib.Core.Path.{◌≡◌, refl}
use mathlib.Core.Bool.{Bool, true, false, not, ◌||◌}
use mathlib.Core.List.{List}
use native.Mathlib.Omega.{arith}
use lib.Dec.{eqb}
use lib.ListN.{length}
use lib.Ieee.{Float}
use Rattle.seq.specs.Choice.{pick}
use Rattle.limits.specs.Limits.{too_large, scratch_short, bounded}
use Rattle.limits.proofs.Sizes.{neither, Small, small, Enough, enough}
use Rattle.colorfaults.specs.Discrepancy.{most_entry, coloring_fault}

pub record Accepted (matrix : List Float) (m n output numbers indices : ℕ) : Type 0 where
  pub columns : m ≤ 256
  pub rows : n ≤ 4096
  pub area : length matrix ≡ m * n
  pub colours : output ≡ m
  pub floats : n + n + n + m * m ≤ numbers
  pub words : n ≤ indices
  pub within : bounded most_entry matrix ≡ true

-- a number that four tests give is 0 only where the first three fail and the last holds
none_given : (s t v w : Bool) → ◌≡◌ {A = ℕ} (pick s 3 (pick t 4 (pick v 6 (pick w 0 11)))) 0 → (s ≡ false) × (t ≡ false) × (v ≡ false) × (w ≡ true)
none_given true t v w h = absurd (omega arith)
none_given false true v w h = absurd (omega arith)
none_given false false true w h = absurd (omega arith)
none_given false false false false h = absurd (omega arith)
none_given false false false true h = (refl, refl, refl, refl)

pub accepted : (matrix : List Float) (m n output numbers indices : ℕ) → coloring_fault matrix m n output numbers indices ≡ 0
    → Accepted matrix m n output numbers indices
unfolding coloring_fault
accepted matrix m n output numbers indices h =
    let tests = none_given (too_large m n) (not (eqb (length matrix) (m * n)) || not (eqb output m)) (scratch_short m n numbers indices)
    (bounded most_entry matrix) h in
    let fits : Small m n = small m n tests.0 in
    let equal = neither (not (eqb (length matrix) (m * n))) (not (eqb output m)) tests.1 in
    let room : Enough m n numbers indices = enough m n numbers indices tests.2 in
    record {
      columns = fits.columns;
      rows = fits.rows;
      area = eqb-true (length matrix) (m * n) (not-false _ equal.0);
      colours = eqb-true output m (not-false _ equal.1);
      floats = omega arith;
      words = omega arith;
      within = tests.3;
    }
