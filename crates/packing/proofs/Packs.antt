-- A list whose front is written and whose rest is cleared, and the two lists that weights are packed in.
use Prim.Native.Nat.{ℕ, ◌-◌, ◌≤◌}
use mathlib.Core.Path.{◌≡◌, ap, ◌∙◌}
use mathlib.Core.List.{List, ◌++◌, append-nil}
use native.Mathlib.Omega.{arith}
use lib.ListN.{length, take, drop, length-drop, length-append, drop_of_length-le}
use lib.Seq.{length-take-le, take_at}
use lib.Ieee.{Float}
use Rattle.seq.specs.Lists.{repeated, placed}
use Rattle.seq.specs.Sums.{plus_zero}
use Rattle.seq.specs.Indices.{Below, Pushed}
use Rattle.seq.proofs.Filling.{length-tab}
use Rattle.seq.proofs.Keeping.{keep-good}
use Rattle.weights.specs.Weights.{is_on}
use Rattle.ranking.specs.Ranking.{support}
use Rattle.places.specs.Places.{chosen}
use Rattle.packing.specs.Packed.{packed_columns, packed_weights}

module _ {A : Type 0} (xs ys : List A) (s : ℕ) (h : s ≤ length xs) where
  pub front_placed : (k : ℕ) → take s (placed s k xs ys) ≡ take s xs
  front_placed k = take_at (take s xs) (ys ++ drop k (drop s xs)) s (length-take-le s xs h)

  pub rest_cleared : (z : A) (front : List A) → take s xs ≡ front → ys ≡ repeated z (length (take (length xs - s) (drop s xs)))
      → placed s (length xs - s) xs ys ≡ front ++ repeated z (length xs - s)
  rest_cleared z front e c =
      let l : length (drop s xs) ≡ length xs - s = length-drop s xs in
      let n : length xs - s ≤ length (drop s xs) = omega arith in
      let m : length (drop s xs) ≤ length xs - s = omega arith in
      rw (e, c, length-take-le (length xs - s) (drop s xs) n, drop_of_length-le (drop s xs) {i = length xs - s} m)
      (ap (λ (r : List A). front ++ r) (append-nil _))

pub support-below : (w : List Float) → Below (support w) (length w)
support-below w = record { below = λ q l. (keep-good (is_on w) (length w) q l).1 }

-- of the columns' numbers
module _ (w : List Float) (s : ℕ) (xs ys : List ℕ) (p : Pushed (support w) s xs) (long : length xs ≡ length w) where
  pub columns_packed : ys ≡ repeated 0 (length (take (length xs - s) (drop s xs))) → placed s (length xs - s) xs ys ≡ packed_columns w
  columns_packed c =
      rest_cleared xs ys s p.within 0 (support w) p.front c
      ∙ ap (λ (k : ℕ). support w ++ repeated 0 k) (let e : length xs - s ≡ length w - length (support w) = omega (arith, p.long) in e)

  -- the front still holds the support
  pub front_support : take s (placed s (length xs - s) xs ys) ≡ support w
  front_support = front_placed xs ys s p.within (length xs - s) ∙ p.front

-- of their weights
module _ (w : List Float) (s : ℕ) (kept front ys : List Float) (few : length (support w) ≡ s) (within : s ≤ length w) (long : length kept ≡ length w)
    (e : front ≡ chosen w (support w)) where
  length_front : length front ≡ s
  length_front = ap length e ∙ length-tab _ (length (support w)) ∙ few

  abbrev pub written : List Float
  written = front ++ drop s kept

  length-written : length written ≡ length w
  length-written = length-append front (drop s kept) ∙ omega (arith, length_front, length-drop s kept)

  pub weights_packed : ys ≡ repeated plus_zero (length (take (length written - s) (drop s written))) → placed s (length written - s) written ys ≡ packed_weights w
  weights_packed c =
      let h : s ≤ length written = omega (arith, length-written) in
      rest_cleared written ys s h plus_zero (chosen w (support w)) (take_at front (drop s kept) s length_front ∙ e) c
      ∙ ap (λ (k : ℕ). chosen w (support w) ++ repeated plus_zero k)
      (let k : length written - s ≡ length w - length (support w) = omega (arith, length-written, few) in k)
