-- Laws of `part` and `placed`: what is written to a part is read from it, and what stands below it is as it was.
use Prim.Native.Nat.{ℕ, ◌+◌, ◌-◌, ◌≤◌, ◌<◌}
use mathlib.Core.Path.{◌≡◌, sym, ap, ◌∙◌}
use mathlib.Core.List.{List, ◌++◌}
use native.Mathlib.Omega.{arith}
use lib.ListN.{length, get_or, take, drop, length-append, length-take, length-drop, take-append-drop}
use lib.Seq.{length-take-le, take-append-le, drop-append-le, drop-append-add, take_at, drop_at, take-add, drop-drop, get_or-take, get_or-drop}
use Rattle.seq.specs.Lists.{part, placed}

module _ {A : Type 0} where
  pub length_part : (a k : ℕ) (xs : List A) → a + k ≤ length xs → length (part a k xs) ≡ k
  length_part a k xs h = length-take-le k (drop a xs) (simp length-drop (omega arith))

  pub length-placed : (a k : ℕ) (xs ys : List A) → a + k ≤ length xs → length ys ≡ k → length (placed a k xs ys) ≡ length xs
  length-placed a k xs ys h e = simp (length-append, length-take, length-drop, e) (omega arith)

  -- a part of the front does not see the back
  front : (b m : ℕ) (p q : List A) → b + m ≤ length p → part b m (p ++ q) ≡ part b m p
  front b m p q h =
      ap (take m) (drop-append-le b p q (omega arith)) ∙ take-append-le m (drop b p) q (simp length-drop (omega arith))

  -- a part of the back does not see the front
  back : (b m : ℕ) (p q : List A) → length p ≤ b → part b m (p ++ q) ≡ part (b - length p) m q
  back b m p q h =
      let e : b ≡ length p + (b - length p) = omega arith in
      ap (take m) (ap (λ (n : ℕ). drop n (p ++ q)) e ∙ drop-append-add p q (b - length p))

  pub part_same : (a k : ℕ) (xs ys : List A) → a + k ≤ length xs → length ys ≡ k → part a k (placed a k xs ys) ≡ ys
  part_same a k xs ys h e =
      ap (take k) (drop_at (take a xs) (ys ++ drop k (drop a xs)) a (length-take-le a xs (omega arith)))
      ∙ take_at ys (drop k (drop a xs)) k e

  pub part-below : (b m a k : ℕ) (xs ys : List A) → b + m ≤ a → a ≤ length xs → part b m (placed a k xs ys) ≡ part b m xs
  part-below b m a k xs ys h g =
      let e : length (take a xs) ≡ a = length-take-le a xs g in
      front b m (take a xs) (ys ++ drop k (drop a xs)) (omega arith)
      ∙ sym (front b m (take a xs) (drop a xs) (omega arith)) ∙ ap (part b m) (take-append-drop a xs)

  pub part-add : (a n k : ℕ) (xs : List A) → part a (n + k) xs ≡ part a n xs ++ part (a + n) k xs
  part-add a n k xs = take-add n k (drop a xs) ∙ ap (λ (l : List A). part a n xs ++ take k l) (drop-drop n a xs)

  pub get_d_part : (a k i : ℕ) (xs : List A) (z : A) → i < k → get_or (part a k xs) i z ≡ get_or xs (a + i) z
  get_d_part a k i xs z h = get_or-take k (drop a xs) i z h ∙ get_or-drop a xs i z
