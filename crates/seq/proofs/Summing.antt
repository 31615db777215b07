-- Laws of running sums: one term more, equal terms give equal sums, and a fold over lists is a sum over their indices.
use Prim.Native.Nat.{ℕ, zero, suc, ◌+◌, ◌≤◌, ◌<◌}
use mathlib.Core.Path.{◌≡◌, refl, ap, sym, ◌∙◌}
use mathlib.Core.List.{List, [], ◌∷◌}
use native.Mathlib.Omega.{arith}
use native.Mathlib.Numerals.{add-one}
use lib.Ieee.{Float, Format, add}
use lib.ListN.{length, get_or, take}
use lib.Seq.{take_all}
use Rattle.std.specs.List.{fold, zip}
use Rattle.std.proofs.lemmas.List.Sums.{fold_more}
use Rattle.std.proofs.lemmas.Slice.Zip.{get_or-zip}
use Rattle.seq.specs.Sums.{sum_from}

module _ (f : Format) (z : Float) where
  pub sum_more : (v : ℕ → Float) (k : ℕ) → sum_from f z v (k + 1) ≡ add f (sum_from f z v k) (v k)
  unfolding sum_from
  sum_more v k = rw add-one

  pub sum_cong : (v w : ℕ → Float) (k : ℕ) → ((i : ℕ) → i < k → v i ≡ w i) → sum_from f z v k ≡ sum_from f z w k
  unfolding sum_from
  sum_cong v w zero h = refl
  sum_cong v w (suc k) h = rw (sum_cong v w k (λ i l. h i (omega arith)), h k (omega arith))

module _ {A : Type 0} (d : A) (xs : List A) (f : Format) (z : Float) (g : A → Float) where
  sum_front : (k : ℕ) → k ≤ length xs → fold (λ s x. add f s (g x)) z (take k xs) ≡ sum_from f z (λ j. g (get_or xs j d)) k
  unfolding sum_from
  sum_front zero h = refl
  sum_front (suc k) h =
      rw (← sum_front k (omega arith)) (rw (← add-one k) (fold_more (λ s x. add f s (g x)) z xs k d (omega arith)))

  -- the elements of a list, each by g
  pub sum_whole : fold (λ s x. add f s (g x)) z xs ≡ sum_from f z (λ j. g (get_or xs j d)) (length xs)
  sum_whole = ap (fold (λ s x. add f s (g x)) z) (sym (take_all (length xs) xs (omega arith))) ∙ sum_front (length xs) (omega arith)

length_zip : {A B : Type 0} (xs : List A) (ys : List B) → length xs ≤ length ys → length (zip xs ys) ≡ length xs
length_zip [] ys h = refl
length_zip (x ∷ xs) [] h = absurd (omega arith)
length_zip (x ∷ xs) (y ∷ ys) h = ap suc (length_zip xs ys (omega arith))

-- the elements of a list, each with that of another, which is as long, by g
pub sum_zip : {A B : Type 0} (d : A) (e : B) (xs : List A) (ys : List B) (f : Format) (z : Float) (g : A → B → Float) → length xs ≤ length ys
    → fold (λ s (p : A × B). add f s (g p.0 p.1)) z (zip xs ys) ≡ sum_from f z (λ j. g (get_or xs j d) (get_or ys j e)) (length xs)
sum_zip {A} {B} d e xs ys f z g h =
    sum_whole (d, e) (zip xs ys) f z (λ p. g p.0 p.1)
    ∙ rw (length_zip xs ys h)
    (sum_cong f z _ _ (length xs) (λ j l. ap (λ (p : A × B). g p.0 p.1) (get_or-zip xs ys j (d, e) l (omega arith))))
