-- Lists one after the other, m places each: where each of them stands, and what a loop holds that puts one after the other into a list.
use Prim.Native.Nat.{ℕ, zero, suc, ◌+◌, ◌*◌, ◌-◌, ◌≤◌, ◌<◌}
use mathlib.Core.Path.{◌≡◌, refl, sym, ap, ◌∙◌}
use mathlib.Core.List.{List, [], ◌++◌, append_assoc, append-nil}
use native.Mathlib.Nat.{zero-mul}
use native.Mathlib.Decide.{dec_lt}
use native.Mathlib.Omega.{arith}
use native.Mathlib.Numerals.{add-one}
use lib.ListN.{length, take, drop, length-append, length-drop}
use lib.Seq.{take_all, take_at, drop_at, drop-drop, drop-length, take-append-le, drop-append-le, get_or-drop, ext_get_or}
use Rattle.seq.specs.Lists.{repeated, part, placed}
use Rattle.seq.proofs.Filling.{room, length-tab, get_or-tab}
use Rattle.items.specs.All.{joined}

-- what is left of repeats is repeats
pub drop-repeated : {A : Type 0} (z : A) (n k : ℕ) → k ≤ n → drop k (repeated z n) ≡ repeated z (n - k)
drop-repeated z n k h =
    let long = length-drop k (repeated z n) in
    let all = length-tab (λ i. z) n in
    let rest = length-tab (λ i. z) (n - k) in
    ext_get_or z (drop k (repeated z n)) (repeated z (n - k)) (omega (arith, long, all, rest))
    (λ i l. get_or-drop k (repeated z n) i z ∙ get_or-tab (λ i. z) n (k + i) z (omega (arith, l, long, all))
    ∙ sym (get_or-tab (λ i. z) (n - k) i z (omega (arith, l, long, all))))

module _ {A : Type 0} (f : ℕ → List A) (m : ℕ) where
  pub length-joined : (k : ℕ) → ((j : ℕ) → j < k → length (f j) ≡ m) → length (joined f k) ≡ k * m
  unfolding joined
  length-joined zero h = sym (zero-mul m)
  length-joined (suc k) h =
      length-append (joined f k) (f k) ∙ omega (arith, length-joined k (λ j l. h j (omega arith)), h k (omega arith))

  pub part-joined : (k : ℕ) → ((j : ℕ) → j < k → length (f j) ≡ m) → (j : ℕ) → j < k → part (j * m) m (joined f k) ≡ f j
  unfolding joined
  part-joined zero h j l = absurd (omega arith)
  part-joined (suc k) h j l = go (dec_lt j k) (part-joined k (λ i g. h i (omega arith)) j)
    where
      long : length (joined f k) ≡ k * m
      long = length-joined k (λ i g. h i (omega arith))

      go : Dec (j < k) → (j < k → part (j * m) m (joined f k) ≡ f j) → part (j * m) m (joined f k ++ f k) ≡ f j
      go (yes g) r =
          let fits : j * m + m ≤ length (joined f k) = omega (arith, room j k m g, long) in
          ap (take m) (drop-append-le (j * m) (joined f k) (f k) (omega arith))
          ∙ take-append-le m (drop (j * m) (joined f k)) (f k) (simp length-drop (omega arith)) ∙ r g
      go (no g) r =
          let e : j ≡ k = omega arith in
          rw e (ap (take m) (drop_at (joined f k) (f k) (k * m) long) ∙ take_all m (f k) (omega (arith, h k (omega arith))))

  -- xs with the first i of them put in
  abbrev pub put_in : List A → ℕ → List A
  put_in xs i = joined f i ++ drop (i * m) xs

  pub none_in : (xs : List A) → xs ≡ put_in xs 0
  unfolding joined
  none_in xs = rw (zero-mul m)

  module _ (xs : List A) (i : ℕ) (long : length (joined f i) ≡ i * m) where
    -- the place of the next is as it was
    pub next_place : part (i * m) m (put_in xs i) ≡ part (i * m) m xs
    next_place = ap (take m) (drop_at (joined f i) (drop (i * m) xs) (i * m) long)

    pub one_more : placed (i * m) m (put_in xs i) (f i) ≡ put_in xs (i + 1)
    unfolding joined
    one_more =
        let e : i * m + m ≡ suc i * m = omega arith in
        rw (add-one i, take_at (joined f i) (drop (i * m) xs) (i * m) long, drop_at (joined f i) (drop (i * m) xs) (i * m) long, drop-drop m (i * m) xs, e)
        (sym (append_assoc (joined f i) (f i) (drop (suc i * m) xs)))

  pub all_in : (xs : List A) (k : ℕ) → length xs ≡ k * m → put_in xs k ≡ joined f k
  all_in xs k e = rw (← e, drop-length xs) (append-nil (joined f k))
