-- Marks: one that is set stands in the list, and past its end none is set.
use Prim.Native.Nat.{ℕ, ◌≤◌, ◌<◌}
use mathlib.Core.Path.{◌≡◌}
use mathlib.Core.Bool.{true, false}
use mathlib.Core.List.{List}
use native.Mathlib.Omega.{arith}
use native.Mathlib.Decide.{dec_lt}
use borrow.Author.Tests.{eqb-true}
use lib.ListN.{length, get_or, get_or-eq_default}
use Rattle.seq.specs.Marks.{is_set}

pub unset_out : (marks : List ℕ) (i : ℕ) → length marks ≤ i → is_set marks i ≡ false
unset_out marks i h = rw (get_or-eq_default marks 0 {n = i} h)

pub set_inside : (marks : List ℕ) (i : ℕ) → is_set marks i ≡ true → i < length marks
set_inside marks i e = go (dec_lt i (length marks))
  where
    go : Dec (i < length marks) → i < length marks
    go (yes h) = h
    go (no h) = absurd (omega (arith, eqb-true (get_or marks i 0) 1 e, get_or-eq_default marks 0 {n = i} (omega arith)))
