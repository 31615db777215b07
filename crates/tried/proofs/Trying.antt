-- One more pass that was tried: what it leaves where it was not taken, and where it was.
use Rattle.std.specs.Prelude.{Option}
use Prim.Native.Nat.{ℕ}
use mathlib.Core.Path.{◌≡◌, sym, ap, ◌∙◌}
use mathlib.Core.Bool.{true, false, not, ◌&&◌}
use mathlib.Core.List.{List}
use lib.ListN.{length}
use lib.Ieee.{Float, le}
use Rattle.seq.specs.Sums.{plus_zero}
use Rattle.change.specs.Margins.{max_change}
use Rattle.rows.specs.Compared.{Lent}
use Rattle.weights.specs.Weights.{nonzeros}
use Rattle.halved.specs.Halve.{Halved}
use Rattle.halved.specs.Handed.{Ready, halves_of}
use Rattle.passed.specs.Halving.{pass_of}
use Rattle.rules.specs.Rules.{meets}
use Rattle.tried.specs.Trial.{TriedOnce, change_after, above_after, was_taken, goes_onward}
use Rattle.colored.specs.declared.Counted.{Counted}
use Rattle.tried.specs.declared.Outcome.TheVariants.{Discarded}
use Rattle.tried.specs.declared.Tried.{Tried}

-- the matrix of a pass is one that a change is measured over
pub lent_of : {matrix : List Float} {bits : List ℕ} {n : ℕ} {w numbers : List Float} {indices : List ℕ} (start : List Float)
    → Ready matrix bits n w numbers indices
    → length start ≡ length w → Lent matrix bits (length start) n
lent_of start r e = record { whole = rw e r.whole; few = rw e r.few; short = r.short }

module _ (matrix : ℕ → ℕ → Float) (n : ℕ) (start : List Float) (a : Float) (cap : Option ℕ) (w : List Float)
    (tally : Counted) {next v : List Float} {after : Counted}
    (copied : next ≡ w) (pass : halves_of v after ≡ pass_of plus_zero matrix n (halves_of next tally)) where
  same_pass : halves_of v after ≡ pass_of plus_zero matrix n (halves_of w tally)
  same_pass = pass ∙ ap (λ (x : List Float). pass_of plus_zero matrix n (halves_of x tally)) copied

  gives : v ≡ (pass_of plus_zero matrix n (halves_of w tally)).w
  gives = ap (λ (h : Halved). h.w) same_pass

  comes-to : halves_of (pass_of plus_zero matrix n (halves_of w tally)).w after ≡ pass_of plus_zero matrix n (halves_of w tally)
  comes-to = ap (λ (x : List Float). halves_of x after) (sym gives) ∙ same_pass

  module _ {x : Float} (measured : x ≡ max_change matrix (length start) n start v) where
    change_is : x ≡ change_after matrix n start w tally
    change_is = measured ∙ ap (max_change matrix (length start) n start) gives

    after_is : above_after matrix n start a w tally ≡ not (le x a)
    after_is = ap (λ (y : Float). not (le y a)) (sym change_is)

    pub left_tried : (not (le x a) && meets cap (nonzeros w)) ≡ true → (r : Tried) → r.tally ≡ after → r.change ≡ x
        → r.outcome ≡ Discarded → TriedOnce matrix n start a cap w tally r w
    left_tried ends r s d o =
        let t = ap was_taken o in
        record {
          pass = rw s comes-to;
          change = d ∙ change_is;
          taken = t ∙ sym (rw after_is (rw ends));
          weights = rw t;
          more = ap goes_onward o ∙ sym (rw t);
        }

    pub taken_tried : (not (le x a) && meets cap (nonzeros w)) ≡ false → (w' : List Float) → w' ≡ v → (r : Tried) → r.tally ≡ after
        → r.change ≡ x → was_taken r.outcome ≡ true → goes_onward r.outcome ≡ not (not (le x a) && meets cap (nonzeros w'))
        → TriedOnce matrix n start a cap w tally r w'
    taken_tried goes w' e r s d t m =
        record {
          pass = rw s comes-to;
          change = d ∙ change_is;
          taken = t ∙ sym (rw after_is (rw goes));
          weights = rw t (e ∙ gives);
          more = rw (t, after_is) m;
        }
