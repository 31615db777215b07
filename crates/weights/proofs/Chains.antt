-- A sum and a count over the elements of a list are those over its indices.
use Prim.Native.Nat.{ℕ, zero, suc, ◌≤◌}
use mathlib.Core.Path.{◌≡◌, refl, ap, ◌∙◌, sym}
use mathlib.Core.Bool.{Bool, true, false}
use mathlib.Core.List.{List}
use native.Mathlib.Omega.{arith}
use native.Mathlib.Numerals.{add-one}
use lib.ListN.{length, get_or, take}
use lib.Seq.{take_all}
use lib.Ieee.{Float, Format, add}
use Rattle.std.specs.List.{fold, filter, count_by}
use Rattle.std.proofs.lemmas.List.Sums.{fold_more, length-filter, count_by_more_yes, count_by_more_no}
use Rattle.seq.specs.Choice.{pick}
use Rattle.seq.specs.Sums.{sum_from}
use Rattle.seq.specs.Keep.{count}

module _ {A : Type 0} (d : A) (xs : List A) where
  sum_front : (f : Format) (z : Float) (g : A → Float) (k : ℕ) → k ≤ length xs
      → fold (λ a x. add f a (g x)) z (take k xs) ≡ sum_from f z (λ j. g (get_or xs j d)) k
  unfolding sum_from
  sum_front f z g zero h = refl
  sum_front f z g (suc k) h =
      rw (← sum_front f z g k (omega arith)) (rw (← add-one k) (fold_more (λ a x. add f a (g x)) z xs k d (omega arith)))

  pub sum_whole : (f : Format) (z : Float) (g : A → Float) → fold (λ a x. add f a (g x)) z xs ≡ sum_from f z (λ j. g (get_or xs j d)) (length xs)
  sum_whole f z g = ap (fold (λ a x. add f a (g x)) z) (sym (take_all (length xs) xs (omega arith))) ∙ sum_front f z g (length xs) (omega arith)

  count_front : (p : A → Bool) (k : ℕ) → k ≤ length xs → count_by p (take k xs) ≡ count (λ j. p (get_or xs j d)) k
  unfolding count
  count_front p zero h = refl
  count_front p (suc k) h = go (p (get_or xs k d)) refl (count_front p k (omega arith))
    where
      go : (t : Bool) → p (get_or xs k d) ≡ t → count_by p (take k xs) ≡ count (λ j. p (get_or xs j d)) k
          → count_by p (take (suc k) xs) ≡ pick t (suc (count (λ j. p (get_or xs j d)) k)) (count (λ j. p (get_or xs j d)) k)
      go true e r = rw (← add-one k) (count_by_more_yes p xs k d (omega arith) e ∙ omega arith)
      go false e r = rw (← add-one k) (count_by_more_no p xs k d (omega arith) e ∙ r)

  pub count_whole : (p : A → Bool) → length (filter p xs) ≡ count (λ j. p (get_or xs j d)) (length xs)
  count_whole p =
      length-filter p xs ∙ ap (count_by p) (sym (take_all (length xs) xs (omega arith))) ∙ count_front p (length xs) (omega arith)
