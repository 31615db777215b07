-- A sum by rows passes over the columns that add nothing: a running sum from +0.0 is never -0.0, so that a zero term leaves it as it is.
use Prim.Native.Nat.{ℕ, zero, suc, ◌+◌, ◌-◌, ◌≤◌, ◌<◌, max}
use mathlib.Core.Path.{◌≡◌, refl, sym, ap, ◌∙◌}
use mathlib.Core.Bool.{Bool, true, false, not, ◌||◌, false≢true}
use mathlib.Core.List.{List}
use native.Mathlib.Omega.{arith}
use lib.Dec.{T}
use Rattle.std.proofs.Common.{Option, None, Some}
use Rattle.std.specs.Option.{MatchOption, unwrap_or}
use lib.Ieee.{Float, nan, binary64, of_bits, add, mul, ne, fits}
use lib.Ieee.Fits.{mul-fits}
use lib.Ieee.Scale.{finite}
use lib.ListN.{length}
use Rattle.seq.specs.Lists.{tabulate}
use Rattle.seq.specs.Sums.{sum_to, plus_zero, at}
use Rattle.seq.proofs.Filling.{length-tab, get_or-tab, tab_cong}
use Rattle.seq.proofs.Summing.{sum_more}
use Rattle.ieee.specs.Flat.{is_zero}
use Rattle.ieee.proofs.Zeros.{plus-nothing, sum_fits, sum_never_minus, nonzero_not_zero}
use Rattle.ieee.proofs.Skips.{mul-by_zero}
use Rattle.chosen.specs.Entries.{entry_of}
use Rattle.chosen.specs.ChosenColumns.{Chosen}
use Rattle.columns.specs.Kernels.{plus_column, plus_columns}
use Rattle.chosen.specs.PassedOver.{PassedOver}
use Rattle.chosen.specs.Rows.{times}

-- terms that are zeros add nothing
more_zeros : (v : ℕ → Float) (a d : ℕ) → ((k : ℕ) → T (fits binary64 (v k))) → ((k : ℕ) → a ≤ k → k < a + d → T (is_zero (v k))) → sum_to
    plus_zero v (a + d) ≡ sum_to plus_zero v a
unfolding of_bits
more_zeros v a zero h z = ap (sum_to plus_zero v) (omega arith)
more_zeros v a (suc d) h z =
    ap (sum_to plus_zero v) (omega arith)
    ∙ sum_more binary64 plus_zero v (a + d)
    ∙ nothing
    ∙ more_zeros v a d h (λ k l m. z k l (omega arith))
  where
    nothing : add binary64 (sum_to plus_zero v (a + d)) (v (a + d)) ≡ sum_to plus_zero v (a + d)
    nothing = plus-nothing binary64 (sum_to plus_zero v (a + d)) (v (a + d)) (sum_fits binary64 v (a + d)) (h (a + d))
        (sum_never_minus binary64 v (a + d) (λ j l. h j)) (z (a + d) (omega arith) (omega arith))

is : (b : Bool) → not b ≡ false → T b
is true h = tt
is false h = absurd (false≢true (sym h))

zero_is : (x : Float) → ne x plus_zero ≡ false → T (is_zero x)
unfolding of_bits
zero_is x e = is (is_zero x) (sym (nonzero_not_zero x) ∙ e)

-- a place at which the test finds nothing
pub nothing_there : (x s : Float) → ne x plus_zero || not (finite s) ≡ false → T (is_zero x) × T (finite s)
nothing_there x s e = both (ne x plus_zero) (not (finite s)) refl refl e
  where
    both : (a b : Bool) → a ≡ ne x plus_zero → b ≡ not (finite s) → a || b ≡ false → T (is_zero x) × T (finite s)
    both true b p q e = absurd (false≢true (sym e))
    both false b p q e = (zero_is x (sym p), is (finite s) (sym q ∙ e))

-- the first place that a search finds, or the end, passes over those before it
pub passed-first : {scale g : List Float} {from : ℕ} (r : Option ℕ)
    → MatchOption r ((k : ℕ) → from ≤ k → k < length g → T (is_zero (at g k)) × T (finite (at scale k)))
    (λ i. (from ≤ i) × (i < length g) × Unit {0} × ((k : ℕ) → from ≤ k → k < i → T (is_zero (at g k)) × T (finite (at scale k))))
    → PassedOver scale g from (unwrap_or r (max from (length g)))
passed-first None h =
    record {
      low = omega arith;
      high = omega arith;
      inside = λ l. omega arith;
      nothing = λ k l m. h k l (omega arith);
    }
passed-first (Some i) h =
    record {
      low = h.0;
      high = omega arith;
      inside = λ l. omega arith;
      nothing = h.3;
    }

module _ (matrix : List Float) (bits : List ℕ) (n : ℕ) (cols : List ℕ) (scale g : List Float) (rows : ℕ) (c : Chosen matrix bits n cols scale rows) where
  abbrev a : ℕ → ℕ → Float
  a = entry_of matrix bits n cols scale

  abbrev term : ℕ → ℕ → Float
  term i q = mul binary64 (a q i) (at g q)

  -- a row's sum up to `from` is its sum up to r
  row_passed : (from r i : ℕ) → PassedOver scale g from r → r ≤ length cols → sum_to plus_zero (term i) r ≡ sum_to plus_zero (term i) from
  row_passed from r i s l =
      let d : from + (r - from) ≡ r = omega (arith, s.low) in
      sym (ap (sum_to plus_zero (term i)) d)
      ∙ more_zeros (term i) from (r - from) (λ k. mul-fits binary64 (a k i) (at g k))
      (λ k h m. let e = s.nothing k h (omega arith) in mul-by_zero binary64 (a k i) (at g k) (c.sound k i (omega arith) e.1) e.0)

  pub times-passed : (from r : ℕ) (acc : List Float) (k : ℕ) → acc ≡ times plus_zero a from k g → PassedOver scale g from r → r ≤ length
      cols → acc ≡ times plus_zero a r k g
  times-passed from r acc k e s l = e ∙ tab_cong _ _ k (λ i h. sym (row_passed from r i s l))

  -- one column more
  pub one_added : (p : ℕ) (acc : List Float) (k : ℕ) → acc ≡ times plus_zero a p k g → tabulate (plus_column (a p) (at g p) acc)
      (length acc) ≡ times plus_zero a (p + 1) k g
  one_added p acc k e =
      rw (e, length-tab)
      (tab_cong _ _ k (λ i h.
      rw (get_or-tab (λ j. sum_to plus_zero (term j) p) k i nan h, sum_more binary64 plus_zero (term i) p)))

  -- two columns more, with none that adds something between them
  pub two_added : (p q : ℕ) (acc : List Float) (k : ℕ) → acc ≡ times plus_zero a p k g → PassedOver scale g (p + 1) q → q ≤ length cols
      → tabulate (plus_columns (a p) (at g p) (a q) (at g q) acc) (length acc) ≡ times plus_zero a (q + 1) k g
  two_added p q acc k e s l =
      rw (e, length-tab)
      (tab_cong _ _ k (λ i h.
      rw (get_or-tab (λ j. sum_to plus_zero (term j) p) k i nan h) (ap (λ (x : Float). add binary64 x (term i q))
      (sym (sum_more binary64 plus_zero (term i) p) ∙ sym (row_passed (p + 1) q i s l)) ∙ sym
      (sum_more binary64 plus_zero (term i) q))))
