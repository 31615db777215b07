-- Each contract is an equation, so it has one answer: a second record that answers the same call is equal to the first. The proof is that alone.
use Prim.Native.Nat.{ℕ}
use mathlib.Core.Path.{◌≡◌, sym, ◌∙◌}
use mathlib.Core.List.{List}
use lib.Ieee.{Float}
use Rattle.margins.specs.Answers.{change_answer, turned_answer}
use Rattle.margins.specs.declared.Change.{Change}
use Rattle.margins.specs.declared.Turned.{Turned}

module _ (matrix : List Float) (m n : ℕ) (before after : List Float) where
  pub change_unique : (r s : Change) → r ≡ change_answer matrix m n before after → s ≡ change_answer matrix m n before after → r ≡ s
  change_unique r s p q = p ∙ sym q

  pub turned_unique : (thresholds : List Float) (r s : Turned)
      → r ≡ turned_answer matrix m n before after thresholds → s ≡ turned_answer matrix m n before after thresholds → r ≡ s
  turned_unique thresholds r s p q = p ∙ sym q
