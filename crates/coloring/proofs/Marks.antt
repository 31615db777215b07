-- A set mark is found among some exactly where their count is not 0.
use Prim.Native.Nat.{ℕ, zero, suc, ◌≤◌}
use mathlib.Core.Path.{◌≡◌, refl, sym, ap, ◌∙◌}
use mathlib.Core.Logic.{◌≢◌}
use mathlib.Core.Bool.{Bool, true, false, not, ◌||◌}
use mathlib.Core.List.{List}
use native.Mathlib.Omega.{arith}
use native.Mathlib.Numerals.{add-one}
use borrow.Author.Tests.{ne_eqb, eqb-true, eqb-false, not-true, not-false}
use lib.Dec.{eqb}
use lib.ListN.{length, take}
use lib.Seq.{take_all}
use Rattle.std.specs.List.{list_any}
use Rattle.std.proofs.lemmas.List.Folds.{list_any_more}
use Rattle.seq.specs.Choice.{pick}
use Rattle.seq.specs.Keep.{count}
use Rattle.seq.specs.Marks.{is_set}
use Rattle.walked.specs.Walk.{free_ones}

module _ (marks : List ℕ) where
  abbrev found : List ℕ → Bool
  found = list_any (λ (y : ℕ). eqb y 1)

  or_true : (b : Bool) → (b || true) ≡ true
  or_true true = refl
  or_true false = refl

  or_false : (b : Bool) → (b || false) ≡ b
  or_false true = refl
  or_false false = refl

  front : (k : ℕ) → k ≤ length marks → found (take k marks) ≡ not (eqb (count (is_set marks) k) 0)
  unfolding count
  front zero h = refl
  front (suc k) h =
      let e = list_any_more (λ (y : ℕ). eqb y 1) marks k 0 (omega arith) in
      rw add-one at e ∙ rw (front k (omega arith)) (go (is_set marks k) (count (is_set marks) k))
    where
      go : (t : Bool) (c : ℕ) → (not (eqb c 0) || t) ≡ not (eqb (pick t (suc c) c) 0)
      go true c = rw (ne_eqb (suc c) 0 (λ (e : suc c ≡ 0). (absurd (omega arith)))) (or_true (not (eqb c 0)))
      go false c = or_false (not (eqb c 0))

  whole : found marks ≡ not (eqb (free_ones marks) 0)
  whole = ap found (sym (take_all (length marks) marks (omega arith))) ∙ front (length marks) (omega arith)

  pub some_free : found marks ≡ true → free_ones marks ≢ 0
  some_free e = eqb-false (free_ones marks) 0 (not-true _ (sym whole ∙ e))

  pub none_free : found marks ≡ false → free_ones marks ≡ 0
  none_free e = eqb-true (free_ones marks) 0 (not-false _ (sym whole ∙ e))
