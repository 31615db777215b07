-- What a change and a count from bits have where nothing is refused, and the answer on each way out.
use borrow.Author.Tests.{eqb-true, ne_eqb}
use Prim.Native.Nat.{ℕ, ◌*◌}
use mathlib.Core.Path.{◌≡◌, refl, sym, ◌∙◌}
use mathlib.Core.Bool.{Bool, true, false, not}
use mathlib.Core.List.{List, []}
use native.Mathlib.Omega.{arith}
use lib.Dec.{eqb}
use lib.ListN.{length}
use lib.Ieee.{Float}
use Rattle.seq.specs.Choice.{pick, or_else}
use Rattle.seq.specs.Sums.{plus_zero}
use Rattle.limits.specs.Limits.{too_large, all_finite}
use Rattle.limits.specs.Votes.{bytes_of, spare_fault}
use Rattle.limits.specs.Reading.{read_of}
use Rattle.limits.proofs.Sizes.{Small, small}
use Rattle.change.specs.Margins.{max_change}
use Rattle.turned.specs.Turned.{turned_count}
use Rattle.refusal.proofs.Reasons.{no_fault}
use Rattle.rows.specs.Compared.{Compared}
use Rattle.margins.specs.declared.Change.{Change}
use Rattle.margins.specs.declared.Turned.{Turned}
use Rattle.margins.proofs.Refusals.{passed}
use Rattle.pollfaults.specs.Polls.{poll_fault, bits_change_fault, bits_change, bits_turned_fault, bits_turned}
use Rattle.limits.proofs.ReadsAs.{bits-whole}
use Rattle.pollfaults.proofs.AsDoubles.{change_expanded, turned-expanded}

-- the sizes that are taken
pub record Sized (bits : List ℕ) (m n : ℕ) (before after : List Float) : Type 0 where
  pub columns : Small m n
  pub area : length bits ≡ m * bytes_of n
  pub first : length before ≡ m
  pub second : length after ≡ m

module _ (bits : List ℕ) (m n : ℕ) (before after : List Float) where
  -- what passes has the sizes
  pub poll_sizes : poll_fault bits m n before after ≡ 0 → Sized bits m n before after
  unfolding poll_fault
  poll_sizes h =
      let p = passed (too_large m n) (eqb (length bits) (m * bytes_of n)) (eqb (length before) m) (eqb (length after) m) h in
      record {
        columns = small m n p.0;
        area = eqb-true (length bits) (m * bytes_of n) p.1;
        first = eqb-true (length before) m p.2;
        second = eqb-true (length after) m p.3;
      }

  -- and is what the change and the count ask for
  pub poll_asked : Sized bits m n before after → Compared [] bits n before after
  poll_asked s =
      let w = bits-whole bits m n s.area in
      (rw s.first (record { whole = w; few = s.columns.columns; short = s.columns.rows }), s.second ∙ sym s.first)

  -- the answers of the change on its two ways out
  pub change_refused : (number : ℕ) → number ≡ bits_change_fault bits m n before after → (number ≡ 0 → ⊥)
      → ◌≡◌ {A = Change} (record { number = number; change = plus_zero }) (bits_change bits m n before after)
  unfolding bits_change
  change_refused number is h = rw (← is, ne_eqb number 0 h)

  pub change-sizes : 0 ≡ bits_change_fault bits m n before after → Sized bits m n before after
  change-sizes is = poll_sizes (no_fault (poll_fault bits m n before after) (spare_fault bits m n) (sym is)).0

  pub change_taken : 0 ≡ bits_change_fault bits m n before after → (r : Float) → r ≡ max_change (read_of [] bits n) (length before) n before after
      → ◌≡◌ {A = Change} (record { number = 0; change = r }) (bits_change bits m n before after)
  unfolding bits_change
  change_taken is r k =
      let s = change-sizes is in
      let w : r ≡ max_change (read_of [] bits n) m n before after = rw s.first at k in
      rw (← is, ← change_expanded bits m n s.area before after, ← w)

  module _ (thresholds : List Float) where
    -- what a count that is not refused has
    pub turned-sizes : bits_turned_fault bits m n before after thresholds ≡ 0 → Sized bits m n before after × (length thresholds ≡ n)
    turned-sizes h =
        let p = no_fault (poll_fault bits m n before after) _ h in
        (poll_sizes p.0, go (eqb (length thresholds) n) refl p.1)
      where
        go : (t : Bool) → eqb (length thresholds) n ≡ t
            → ◌≡◌ {A = ℕ} (pick (not t) 4 (or_else (spare_fault bits m n) (pick (all_finite thresholds) 0 8))) 0 → length thresholds ≡ n
        go true is e = eqb-true (length thresholds) n is
        go false is e = absurd (omega arith)

    -- the answers of the count on its two ways out
    pub turned_refused : (number : ℕ) → number ≡ bits_turned_fault bits m n before after thresholds → (number ≡ 0 → ⊥)
        → ◌≡◌ {A = Turned} (record { number = number; count = 0 }) (bits_turned bits m n before after thresholds)
    unfolding bits_turned
    turned_refused number is h = rw (← is, ne_eqb number 0 h)

    pub turned_taken : 0 ≡ bits_turned_fault bits m n before after thresholds → (r : ℕ)
        → r ≡ turned_count (read_of [] bits n) (length before) n before after thresholds
        → ◌≡◌ {A = Turned} (record { number = 0; count = r }) (bits_turned bits m n before after thresholds)
    unfolding bits_turned
    turned_taken is r k =
        let s = (turned-sizes (sym is)).0 in
        let w : r ≡ turned_count (read_of [] bits n) m n before after thresholds = rw s.first at k in
        rw (← is, ← turned-expanded bits m n s.area before after thresholds, ← w)
