-- What holds of the arguments of a colouring from bits that is not refused: the sizes fit.
use borrow.Author.Tests.{eqb-true, not-false}
use Prim.Native.Nat.{ℕ, ◌+◌, ◌*◌, ◌≤◌}
use mathlib.Core.Path.{◌≡◌, refl}
use mathlib.Core.Bool.{Bool, true, false, not, ◌||◌}
use mathlib.Core.List.{List}
use native.Mathlib.Omega.{arith}
use lib.Dec.{eqb}
use lib.ListN.{length}
use Rattle.seq.specs.Choice.{pick}
use Rattle.limits.specs.Limits.{too_large, scratch_short}
use Rattle.limits.specs.Votes.{bytes_of, spare_clear}
use Rattle.limits.proofs.Sizes.{neither, Small, small, Enough, enough}
use Rattle.pollfaults.specs.Polls.{bits_coloring_fault}

-- the sizes of what is taken
pub record Accepted (bits : List ℕ) (m n output numbers indices : ℕ) : Type 0 where
  pub columns : m ≤ 256
  pub rows : n ≤ 4096
  pub area : length bits ≡ m * bytes_of n
  pub colours : output ≡ m
  pub floats : n + n + n + m * m ≤ numbers
  pub words : n ≤ indices

-- a number that four tests give is 0 only where the first three fail
none_given : (s t v w : Bool) → ◌≡◌ {A = ℕ} (pick s 3 (pick t 4 (pick v 6 (pick w 0 15)))) 0 → (s ≡ false) × (t ≡ false) × (v ≡ false)
none_given true t v w h = absurd (omega arith)
none_given false true v w h = absurd (omega arith)
none_given false false true w h = absurd (omega arith)
none_given false false false w h = (refl, refl, refl)

module _ (bits : List ℕ) (m n output numbers indices : ℕ) where
  -- with no number the sizes are such
  pub accepted : bits_coloring_fault bits m n output numbers indices ≡ 0 → Accepted bits m n output numbers indices
  unfolding bits_coloring_fault
  accepted h =
      let tests = none_given (too_large m n) (not (eqb (length bits) (m * bytes_of n)) || not (eqb output m)) (scratch_short m n numbers indices)
      (spare_clear bits m n) h in
      let fits : Small m n = small m n tests.0 in
      let equal = neither (not (eqb (length bits) (m * bytes_of n))) (not (eqb output m)) tests.1 in
      let room : Enough m n numbers indices = enough m n numbers indices tests.2 in
      record {
        columns = fits.columns;
        rows = fits.rows;
        area = eqb-true (length bits) (m * bytes_of n) (not-false _ equal.0);
        colours = eqb-true output m (not-false _ equal.1);
        floats = omega arith;
        words = omega arith;
      }
