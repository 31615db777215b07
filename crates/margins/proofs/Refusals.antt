-- What follows where nothing is refused, and the answer on each way out.
use borrow.Author.Tests.{eqb-true, ne_eqb}
use Prim.Native.Nat.{ℕ, ◌*◌}
use mathlib.Core.Path.{◌≡◌, refl, sym}
use mathlib.Core.Bool.{Bool, true, false, not, ◌||◌}
use mathlib.Core.List.{List, []}
use native.Mathlib.Omega.{arith}
use lib.Dec.{eqb}
use lib.ListN.{length}
use lib.Ieee.{Float}
use Rattle.seq.specs.Choice.{pick}
use Rattle.seq.specs.Sums.{plus_zero}
use Rattle.limits.specs.Limits.{too_large, all_finite}
use Rattle.limits.proofs.Sizes.{small}
use Rattle.limits.specs.Matrix.{columns_of}
use Rattle.change.specs.Margins.{max_change}
use Rattle.turned.specs.Turned.{turned_count}
use Rattle.margins.specs.Answers.{margin_fault, change_answer, threshold_fault, turned_fault, turned_answer}
use Rattle.refusal.proofs.Reasons.{no_fault}
use Rattle.rows.specs.Compared.{Compared}
use Rattle.margins.specs.declared.Change.{Change}
use Rattle.margins.specs.declared.Turned.{Turned}

-- a number that is 0 passed every test
pub passed : (large whole first second : Bool) → ◌≡◌ {A = ℕ} (pick large 3 (pick (not whole || (not first || not second)) 4 0)) 0
    → (large ≡ false) × (whole ≡ true) × (first ≡ true) × (second ≡ true)
passed true w f s e = absurd (omega arith)
passed false false f s e = absurd (omega arith)
passed false true false s e = absurd (omega arith)
passed false true true false e = absurd (omega arith)
passed false true true true e = (refl, refl, refl, refl)

module _ (matrix : List Float) (m n : ℕ) (before after : List Float) where
  -- what is not refused is of the sizes that are taken
  pub taken-sizes : 0 ≡ margin_fault matrix m n before after → Compared matrix [] n before after × (length before ≡ m)
  unfolding margin_fault
  taken-sizes is =
      let p = passed (too_large m n) (eqb (length matrix) (m * n)) (eqb (length before) m) (eqb (length after) m) (sym is) in
      let s = small m n p.0 in
      let w = eqb-true (length matrix) (m * n) p.1 in
      let b = eqb-true (length before) m p.2 in
      let a = eqb-true (length after) m p.3 in
      ((rw b (record { whole = record { doubles = λ e. w; votes = λ h. absurd (omega arith) }; few = s.columns; short = s.rows }), omega arith), b)

  -- the answers on the two ways out
  pub change_refused : (number : ℕ) → number ≡ margin_fault matrix m n before after → (number ≡ 0 → ⊥)
      → ◌≡◌ {A = Change} (record { number = number; change = plus_zero }) (change_answer matrix m n before after)
  unfolding change_answer
  change_refused number is h = rw (← is, ne_eqb number 0 h)

  pub change_taken : 0 ≡ margin_fault matrix m n before after → (r : Float) → r ≡ max_change (columns_of matrix n) (length before) n before after
      → length before ≡ m → ◌≡◌ {A = Change} (record { number = 0; change = r }) (change_answer matrix m n before after)
  unfolding change_answer
  change_taken is r e b = rw (← is, ← b, e)

  -- and of turned words
  module _ (thresholds : List Float) where
    pub turned_refused : (number : ℕ) → number ≡ turned_fault matrix m n before after thresholds → (number ≡ 0 → ⊥)
        → ◌≡◌ {A = Turned} (record { number = number; count = 0 }) (turned_answer matrix m n before after thresholds)
    unfolding turned_answer
    turned_refused number is h = rw (← is, ne_eqb number 0 h)

    pub turned_taken : 0 ≡ turned_fault matrix m n before after thresholds → (r : ℕ)
        → r ≡ turned_count (columns_of matrix n) (length before) n before after thresholds → length before ≡ m
        → ◌≡◌ {A = Turned} (record { number = 0; count = r }) (turned_answer matrix m n before after thresholds)
    unfolding turned_answer
    turned_taken is r e b = rw (← is, ← b, e)

    -- where neither the sizes nor the thresholds are refused
    pub neither_refused : 0 ≡ turned_fault matrix m n before after thresholds
        → (0 ≡ margin_fault matrix m n before after) × (threshold_fault n thresholds ≡ 0)
    neither_refused is =
        let e = no_fault (margin_fault matrix m n before after) (threshold_fault n thresholds) (sym is) in (sym e.0, e.1)

module _ (n : ℕ) (thresholds : List Float) where
  pub thresholds_fit : threshold_fault n thresholds ≡ 0 → length thresholds ≡ n
  unfolding threshold_fault
  thresholds_fit e = go (eqb (length thresholds) n) refl e
    where
      go : (t : Bool) → eqb (length thresholds) n ≡ t → ◌≡◌ {A = ℕ} (pick (not t) 4 (pick (all_finite thresholds) 0 8)) 0
          → length thresholds ≡ n
      go true is e = eqb-true (length thresholds) n is
      go false is e = absurd (omega arith)
