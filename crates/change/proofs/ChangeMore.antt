-- Laws of more columns: a block of changes over j columns becomes that over one or two more, and stays where the weights do not differ.
use Prim.Native.Nat.{ℕ, zero, suc, ◌+◌, ◌-◌, ◌≤◌, ◌<◌, max}
use mathlib.Core.Path.{◌≡◌, sym, ap, ◌∙◌}
use mathlib.Core.Bool.{true, false}
use mathlib.Core.List.{List}
use native.Mathlib.Omega.{arith}
use native.Mathlib.Numerals.{add-one}
use lib.ListN.{length}
use Rattle.std.proofs.Common.{Option, None, Some}
use Rattle.std.specs.Option.{MatchOption, unwrap_or}
use lib.Ieee.{Float, nan, binary64, add, sub, mul, ne}
use Rattle.seq.specs.Lists.{tabulate}
use Rattle.seq.specs.Sums.{plus_zero, at}
use Rattle.seq.proofs.Filling.{length-tab, get_or-tab, tab_cong}
use Rattle.rows.specs.Blocks.{plus_rows, plus_two_rows}
use Rattle.change.specs.Margins.{change_to}
use Rattle.change.specs.Unmoved.{Unmoved}

-- before the first place that a search finds, or the end, nothing differs
pub unmoved-first : {before after : List Float} {from : ℕ} (r : Option ℕ)
    → MatchOption r ((k : ℕ) → from ≤ k → k < length before → ne (sub binary64 (at before k) (at after k)) plus_zero ≡ false)
    (λ i. (from ≤ i) × (i < length before) × Unit {0}
    × ((k : ℕ) → from ≤ k → k < i → ne (sub binary64 (at before k) (at after k)) plus_zero ≡ false))
    → Unmoved before after from (unwrap_or r (max from (length before)))
unmoved-first None h = record { low = omega arith; inside = λ l. omega arith; same = λ k l m. h k l (omega arith) }
unmoved-first (Some i) h = record { low = h.0; inside = λ l. omega arith; same = h.3 }

-- where the search starts within the weights, they end where it finds nothing
pub unmoved-to : {before after : List Float} {from : ℕ} (r : Option ℕ) → from ≤ length before
    → Unmoved before after from (unwrap_or r (max from (length before))) → Unmoved before after from (unwrap_or r (length before))
unmoved-to {before} {after} {from} None l u =
    let q : max from (length before) ≡ length before = omega arith in
    rw q at u
unmoved-to (Some i) l u = u

module _ (matrix : ℕ → ℕ → Float) (before after : List Float) where
  -- a change takes a column at which the weights differ
  takes : (i k : ℕ) → ne (sub binary64 (at before k) (at after k)) plus_zero ≡ true
      → change_to matrix before after i (k + 1)
      ≡ add binary64 (change_to matrix before after i k) (mul binary64 (matrix k i) (sub binary64 (at before k) (at after k)))
  unfolding change_to
  takes i k t = rw (add-one k, t)

  -- and passes over those at which they do not
  passes : (i a d : ℕ) → ((k : ℕ) → a ≤ k → k < a + d → ne (sub binary64 (at before k) (at after k)) plus_zero ≡ false)
      → change_to matrix before after i (a + d) ≡ change_to matrix before after i a
  unfolding change_to
  passes i a zero z =
      let e : a + zero ≡ a = omega arith in
      ap (change_to matrix before after i) e
  passes i a (suc d) z =
      let e : a + suc d ≡ suc (a + d) = omega arith in
      rw (e, z (a + d) (omega arith) (omega arith)) (passes i a d (λ k l m. z k l (omega arith)))

  row_passed : (i a r : ℕ) → Unmoved before after a r → change_to matrix before after i r ≡ change_to matrix before after i a
  row_passed i a r u =
      let d : a + (r - a) ≡ r = omega (arith, u.low) in
      sym (ap (change_to matrix before after i) d) ∙ passes i a (r - a) (λ k l m. u.same k l (omega arith))

  module _ (from l : ℕ) (block : List Float) where
    -- a block over the columns below a is one over those below r, where between them nothing differs
    pub block_passed : (a r : ℕ) → block ≡ tabulate (λ i. change_to matrix before after (from + i) a) l → Unmoved before after a r
        → block ≡ tabulate (λ i. change_to matrix before after (from + i) r) l
    block_passed a r e u = e ∙ tab_cong _ _ l (λ i h. sym (row_passed (from + i) a r u))

    module _ (j : ℕ) (so_far : block ≡ tabulate (λ i. change_to matrix before after (from + i) j) l)
        (moved : ne (sub binary64 (at before j) (at after j)) plus_zero ≡ true) where
      row_there : (i : ℕ) → i < l → at block i ≡ change_to matrix before after (from + i) j
      row_there i h = ap (λ (b : List Float). at b i) so_far ∙ get_or-tab (λ i. change_to matrix before after (from + i) j) l i nan h

      -- it takes the column j
      pub one_added : tabulate (plus_rows matrix j from (sub binary64 (at before j) (at after j)) block) (length block)
          ≡ tabulate (λ i. change_to matrix before after (from + i) (j + 1)) l
      one_added =
          ap (tabulate (plus_rows matrix j from (sub binary64 (at before j) (at after j)) block)) (ap length so_far ∙ length-tab _ l)
          ∙ tab_cong _ _ l (λ i h. rw (row_there i h) (sym (takes (from + i) j moved)))

      -- or the columns j and p, where between them nothing differs
      pub two_added : (p : ℕ) → Unmoved before after (j + 1) p → ne (sub binary64 (at before p) (at after p)) plus_zero ≡ true
          → tabulate (plus_two_rows matrix j (sub binary64 (at before j) (at after j)) p (sub binary64 (at before p) (at after p)) from block) (length block)
          ≡ tabulate (λ i. change_to matrix before after (from + i) (p + 1)) l
      two_added p u also =
          ap (tabulate (plus_two_rows matrix j (sub binary64 (at before j) (at after j)) p (sub binary64 (at before p) (at after p)) from block))
          (ap length so_far ∙ length-tab _ l)
          ∙ tab_cong _ _ l (λ i h.
          rw (row_there i h)
          (sym (takes (from + i) p also
          ∙ ap (λ (x : Float). add binary64 x (mul binary64 (matrix p (from + i)) (sub binary64 (at before p) (at after p))))
          (row_passed (from + i) (j + 1) p u ∙ takes (from + i) j moved))))
