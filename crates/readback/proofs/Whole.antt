-- The whole sheet read back into the caller's lists.
use borrow.Author.Tests.{ne_eqb, le-ltb}
use Prim.Native.Nat.{ℕ, ◌*◌, ◌≤◌, ◌<◌}
use mathlib.Core.Path.{◌≡◌, refl, sym, ap, ◌∙◌}
use mathlib.Core.Bool.{true, false}
use native.Mathlib.Nat.{mul-le-mul, mul-le-mul_right}
use mathlib.Core.List.{List, [], ◌∷◌, ◌++◌}
use native.Mathlib.Omega.{arith}
use lib.ListN.{length, take, drop, set}
use lib.Seq.{length-take-le}
use Rattle.seq.specs.Lists.{tabulate}
use Rattle.fields.specs.Fields.{bits_at}
use Rattle.head.specs.FirstLine.{head_of}
use Rattle.head.specs.declared.Head.{Head}
use Rattle.form.specs.Form.{wrong_line}
use Rattle.form.specs.Reading.{weight_place, entry_place, weight_bits, matrix_bits}
use Rattle.form.proofs.Verdicts.{Sized}
use Rattle.readback.specs.ReadingBack.{first_of, too_short, ReadBack}

-- seven numbers in the places of the first seven
pub seven : (v : List ℕ) (a b c d e f g : ℕ) → 7 ≤ length v
    → set (set (set (set (set (set (set v 0 a) 1 b) 2 c) 3 d) 4 e) 5 f) 6 g ≡ a ∷ b ∷ c ∷ d ∷ e ∷ f ∷ g ∷ drop 7 v
seven [] a b c d e f g h = absurd (omega arith)
seven (x ∷ []) a b c d e f g h = absurd (omega arith)
seven (x ∷ y ∷ []) a b c d e f g h = absurd (omega arith)
seven (x ∷ y ∷ z ∷ []) a b c d e f g h = absurd (omega arith)
seven (x ∷ y ∷ z ∷ u ∷ []) a b c d e f g h = absurd (omega arith)
seven (x ∷ y ∷ z ∷ u ∷ v ∷ []) a b c d e f g h = absurd (omega arith)
seven (x ∷ y ∷ z ∷ u ∷ v ∷ w ∷ []) a b c d e f g h = absurd (omega arith)
seven (x ∷ y ∷ z ∷ u ∷ v ∷ w ∷ s ∷ rest) a b c d e f g h = refl

-- so many entries a sheet can have, and the part of the matrix that is lent
pub entries_most : (h : Head) → Sized h → h.m * h.n ≤ 2048
entries_most h z = mul-le-mul z.columns z.rows

pub entries_lent : (h : Head) (matrix : List ℕ) → Sized h → 2048 ≤ length matrix → length (take (h.m * h.n) matrix) ≤ 32 * h.n
entries_lent h matrix z l =
    let few = entries_most h z in
    omega (arith, length-take-le (h.m * h.n) matrix (omega arith), mul-le-mul_right h.n z.columns)

-- lists that are long enough for any sheet
pub not_short : (matrix weights first : List ℕ) → 2048 ≤ length matrix → 32 ≤ length weights → 7 ≤ length first → too_short matrix weights first ≡ false
not_short matrix weights first h g k = rw (le-ltb (length matrix) 2048 h, le-ltb (length weights) 32 g, le-ltb (length first) 7 k)

-- a list is too short, a line is wrong, and all is read
module _ (text matrix weights first : List ℕ) where
  pub list_short : too_short matrix weights first ≡ true → ReadBack text matrix weights first 18446744073709551615 matrix weights first
  list_short h = record { number = rw h; matrices = refl; weighed = refl; firsts = refl }

  pub line_wrong : (line : ℕ) → too_short matrix weights first ≡ false → line ≡ wrong_line text → 0 < line
      → ReadBack text matrix weights first line matrix weights first
  line_wrong line h e g =
      let p = ne_eqb line 0 (λ z. omega arith) in
      record { number = rw h e; matrices = rw p; weighed = rw p; firsts = rw p }

  pub all_read : (h : Head) (ms ws first' : List ℕ) → 2048 ≤ length matrix → 32 ≤ length weights → too_short matrix weights first ≡ false → wrong_line text ≡ 0 → h ≡ head_of text → Sized h
      → ms ≡ tabulate (λ k. (bits_at text (entry_place h.next h.n k)).value) (length (take (h.m * h.n) matrix))
      → ws ≡ tabulate (λ j. (bits_at text (weight_place h.next h.n j)).value) (length (take h.m weights)) → first' ≡ first_of h ++ drop 7 first
      → ReadBack text matrix weights first 0 (ms ++ drop (h.m * h.n) matrix) (ws ++ drop h.m weights) first'
  all_read h ms ws first' long enough s z g sizes p q r =
      let few = entries_most h sizes in
      let p' : ms ≡ matrix_bits text h = p ∙ ap (tabulate (λ k. (bits_at text (entry_place h.next h.n k)).value))
      (length-take-le (h.m * h.n) matrix (omega arith)) in
      let q' : ws ≡ weight_bits text h =
      q ∙ ap (tabulate (λ j. (bits_at text (weight_place h.next h.n j)).value)) (length-take-le h.m weights (omega (arith, sizes.columns))) in
      record {
        number = rw s (sym z);
        matrices = ap (λ (x : List ℕ). x ++ drop (h.m * h.n) matrix) p' ∙ ap (λ (x : Head). matrix_bits text x ++ drop (x.m * x.n) matrix) g;
        weighed = ap (λ (x : List ℕ). x ++ drop h.m weights) q' ∙ ap (λ (x : Head). weight_bits text x ++ drop x.m weights) g;
        firsts = r ∙ ap (λ (x : Head). first_of x ++ drop 7 first) g;
      }
