-- What the functions hand on: the keys are the changes, and each way out gives the list or leaves it.
use borrow.Author.Tests.{ne_eqb}
use Prim.Native.Nat.{ℕ, ◌+◌}
use mathlib.Core.Path.{◌≡◌, sym, ◌∙◌, subst}
use mathlib.Core.Bool.{false≢true}
use mathlib.Core.List.{List}
use native.Mathlib.Nat.{zero-add}
use lib.ListN.{length}
use lib.Ieee.{Float}
use Rattle.std.specs.Prelude.{Result, Ok, Err}
use Rattle.std.specs.Result.{IsErr}
use Rattle.refusal.specs.Refusals.{number_in}
use Rattle.refusal.specs.declared.Refusal.{Refusal}
use Rattle.refusal.proofs.Reasons.{numbered}
use Rattle.seq.specs.Lists.{tabulate}
use Rattle.change.specs.Margins.{change_to}
use Rattle.marking.specs.Moved.{Moved}
use Rattle.movefaults.specs.Changes.{changes_of, Taken}
use Rattle.movefaults.specs.Answers.{moved_fault, lent_changes, Listed}
use Rattle.movefaults.proofs.Refusals.{passed}

-- the changes from row 0 on
pub filled : (matrix : ℕ → ℕ → Float) (m n : ℕ) (before after v : List Float) (k : ℕ) → v ≡ tabulate
    (λ i. change_to matrix before after (0 + i) m) k → k ≡ n → v ≡ changes_of matrix m n before after
unfolding changes_of
filled matrix m n before after v k e d = e ∙ (λ t. tabulate (λ i. change_to matrix before after (zero-add i t) m) (d t))

-- an Err has a number
pub given_in : (tested : Result Unit Refusal) → IsErr tested → number_in tested ≡ 0 → ⊥
given_in (Ok u) h e = absurd (false≢true h)
given_in (Err r) h e = numbered r e

module _ (matrix : List Float) (m n : ℕ) (before after : List Float) (rows : List ℕ) (changes : List Float) where
  pub refused : (r : ℕ) → r ≡ moved_fault matrix m n before after (length rows) (length changes) → (r ≡ 0 → ⊥)
      → Listed matrix m n before after rows changes r rows changes
  refused r e h = record { number = e; index = rw (ne_eqb r 0 h); list = rw (ne_eqb r 0 h) }

  module _ (e : 0 ≡ moved_fault matrix m n before after (length rows) (length changes)) where
    pub accepted_sizes : Taken matrix (length before) n before after × (length rows ≡ n) × (length changes ≡ n)
    accepted_sizes =
        let p = passed matrix m n before after (length rows) (length changes) (sym e) in
        (subst (λ k. Taken matrix k n before after) (sym p.taken.first) p.taken, p.index, p.list)

    pub accepted : (rows' : List ℕ) (changes' : List Float) → Moved (lent_changes matrix (length before) n before after) rows' changes'
        → Listed matrix m n before after rows changes 0 rows' changes'
    accepted rows' changes' p =
        let first = (passed matrix m n before after (length rows) (length changes) (sym e)).taken.first in
        let q = subst (λ k. Moved (lent_changes matrix k n before after) rows' changes') first p in
        record { number = e; index = q.index; list = q.list }
