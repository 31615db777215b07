-- The lines of the words: how long they are, that they are put in a buffer one behind the other, and that the list is the one that is promised.
use borrow.Author.Tests.{eq-eqb, ne_eqb}
use Prim.Native.Nat.{ℕ, zero, suc, ◌+◌, ◌*◌, ◌≤◌, ◌<◌}
use mathlib.Core.Path.{◌≡◌, refl, sym, ap, ◌∙◌}
use mathlib.Core.Bool.{Bool, true, false}
use mathlib.Core.List.{List, [], ◌∷◌, ◌++◌, append_assoc}
use native.Mathlib.Omega.{arith}
use native.Mathlib.Numerals.{add-one}
use lib.Dec.{eqb}
use lib.ListN.{length, get_or, take, drop, length-append}
use lib.Seq.{length-take-le, take_at}
use lib.Ieee.{Float}
use Rattle.seq.specs.Choice.{pick}
use Rattle.seq.specs.Sums.{at}
use Rattle.fields.specs.Bytes.{tab}
use Rattle.fields.specs.Texts.{count_text, tabbed}
use Rattle.fields.specs.Steps.{WroteOn}
use Rattle.fields.proofs.Widths.{length-count, width_most}
use Rattle.fields.proofs.Puts.{on_two, length-tabbed}
use Rattle.answering.proofs.Lines.{last, length_last}
use Rattle.keeping.proofs.Losses.{none_wrote}
use Rattle.marking.specs.Moved.{moved_rows, changes_at}
use Rattle.movefaults.specs.Answers.{moved_fault, lent_changes, Listed}
use Rattle.wordlines.specs.Lines.{word_word, word_line, word_lines, words_of}

-- a word's line
pub word_wrote : (row : ℕ) (x : Float) (i : ℕ) (out : List ℕ) (a : ℕ) (o : List ℕ) (b : ℕ) (o' : List ℕ) (r : ℕ) (o'' : List ℕ)
    → i + 43 ≤ length out → length o ≡ length out
    → WroteOn word_word i out a o → WroteOn (tabbed row) a o b o' → WroteOn (last x) b o' r o''
    → WroteOn (word_line row x) i out r o''
word_wrote row x i out a o b o' r o'' h g p q t =
    let y = length-tabbed row in
    let f = width_most row in
    let rest = on_two q t (omega (arith, p.ends)) in
    on_two p (rw (append_assoc (count_text row) (tab ∷ []) (last x)) at rest) (omega arith)

length_line : (row : ℕ) (x : Float) → length (word_line row x) ≤ 43
length_line row x =
    rw (length-append (count_text row) (tab ∷ last x)) (omega (arith, length-count row, width_most row, length_last x))

pub length_lines : (rows : List ℕ) (changes : List Float) (k : ℕ) → length (word_lines rows changes k) ≤ 43 * k
unfolding word_lines
length_lines rows changes zero = omega arith
length_lines rows changes (suc k) = rw (length-append (word_lines rows changes k) (word_line (get_or rows k 0) (at changes k)))
    (omega (arith, length_lines rows changes k, length_line (get_or rows k 0) (at changes k)))

-- the lines of the first k words are put
pub record Lining (rows : List ℕ) (changes : List Float) (i : ℕ) (out : List ℕ) (k r : ℕ) (o : List ℕ) : Type 0 where
  pub upto : k ≤ length rows
  pub near : r ≤ i + 43 * k
  pub same : length o ≡ length out
  pub is : WroteOn (word_lines rows changes k) i out r o

pub lining_start : (rows : List ℕ) (changes : List Float) (i : ℕ) (out : List ℕ) → Lining rows changes i out 0 i out
unfolding word_lines
lining_start rows changes i out = record { upto = omega arith; near = omega arith; same = refl; is = none_wrote i out }

lines_more : (rows : List ℕ) (changes : List Float) (k : ℕ)
    → word_lines rows changes (k + 1) ≡ word_lines rows changes k ++ word_line (get_or rows k 0) (at changes k)
unfolding word_lines
lines_more rows changes k = rw add-one

pub lining_turn : {rows : List ℕ} {changes : List Float} {i : ℕ} {out : List ℕ} {k r : ℕ} {o : List ℕ} (r' : ℕ) (o' : List ℕ)
    → Lining rows changes i out k r o → k < length rows → i + 43 * length rows ≤ length out → length o' ≡ length o
    → WroteOn (word_line (get_or rows k 0) (at changes k)) r o r' o' → Lining rows changes i out (k + 1) r' o'
lining_turn {rows} {changes} {i} {out} {k} {r} {o} r' o' e h g l q =
    record {
      upto = omega arith;
      near = omega (arith, e.near, q.ends, length_line (get_or rows k 0) (at changes k));
      same = l ∙ e.same;
      is = rw (lines_more rows changes k) (on_two e.is q (omega (arith, length_lines rows changes k)));
    }

pub lining_whole : {rows : List ℕ} {changes : List Float} {i : ℕ} {out : List ℕ} {k r : ℕ} {o : List ℕ} → Lining rows changes i out k r o
    → length rows ≤ k → WroteOn (word_lines rows changes (length rows)) i out r o
lining_whole {rows} {changes} {i} {out} {k} {r} {o} e h =
    let p : k ≡ length rows = omega (arith, e.upto) in
    rw p at e.is

-- the list of an ensemble, refused or written
module _ {matrix : List Float} {m n : ℕ} {before after : List Float} {rows : List ℕ} {changes : List Float} {number : ℕ} {rows' : List ℕ}
    {changes' : List Float} (l : Listed matrix m n before after rows changes number rows' changes') (p : length rows ≡ n) (q : length changes ≡ n) where
  fault_is : number ≡ moved_fault matrix m n before after n n
  fault_is = l.number ∙ ap (λ (x : ℕ). moved_fault matrix m n before after x (length changes)) p ∙ ap (moved_fault matrix m n before after n) q

  pub words_none : (i : ℕ) (out : List ℕ) → (number ≡ 0 → ⊥) → WroteOn (words_of matrix m n before after) i out i out
  unfolding words_of
  words_none i out h = rw (← fault_is, ne_eqb number 0 h) (none_wrote i out)

  pub words_some : {i : ℕ} {out : List ℕ} {r : ℕ} {out' : List ℕ} (xs : List ℕ) (ys : List Float) → number ≡ 0 → xs ≡ rows' → ys ≡ changes'
      → length xs ≡ n → WroteOn (word_lines xs ys (length xs)) i out r out' → WroteOn (words_of matrix m n before after) i out r out'
  unfolding words_of
  words_some xs ys z e f k w =
      let cs : List Float = lent_changes matrix m n before after in
      let a : xs ≡ moved_rows cs = e ∙ l.index ∙ rw (eq-eqb number 0 z) in
      let b : ys ≡ changes_at cs (moved_rows cs) = f ∙ l.list ∙ rw (eq-eqb number 0 z) in
      let t : word_lines xs ys (length xs) ≡ word_lines (moved_rows cs) (changes_at cs (moved_rows cs)) n =
      ap (word_lines xs ys) k ∙ ap (λ (x : List ℕ). word_lines x ys n) a ∙ ap (λ (y : List Float). word_lines (moved_rows cs) y n) b in
      rw (← fault_is, eq-eqb number 0 z) (rw t at w)

pub shorter : (t : Bool) (xs : List ℕ) (k : ℕ) → length xs ≤ k → length (pick t xs []) ≤ k
shorter true xs k h = h
shorter false xs k h = omega arith

pub length_words : (matrix : List Float) (m n : ℕ) (before after : List Float) → n ≤ 64 → length (words_of matrix m n before after) ≤ 2752
unfolding words_of
length_words matrix m n before after h =
    let cs : List Float = lent_changes matrix m n before after in
    let rows : List ℕ = moved_rows cs in
    shorter (eqb (moved_fault matrix m n before after n n) 0) (word_lines rows (changes_at cs rows) n) 2752
    (omega (arith, length_lines rows (changes_at cs rows) n))

pub words_from : (matrix : List Float) (m n : ℕ) (x y after : List Float) {i : ℕ} {out : List ℕ} {r : ℕ} {out' : List ℕ} → x ≡ y
    → WroteOn (words_of matrix m n x after) i out r out' → WroteOn (words_of matrix m n y after) i out r out'
words_from matrix m n x y after e w = rw e at w

-- an array whose front was lent and came back as ys
module _ {A : Type 0} (k : ℕ) (ys array : List A) (e : length ys ≡ length (take k array)) (h : k ≤ length array) where
  long : length ys ≡ k
  long = e ∙ length-take-le k array h

  pub back_there : k ≤ length (ys ++ drop k array)
  back_there = omega (arith, length-append ys (drop k array), long)

  pub back_whole : k ≡ length (take k (ys ++ drop k array))
  back_whole = sym (length-take-le k (ys ++ drop k array) back_there)

  pub back_read : take k (ys ++ drop k array) ≡ ys
  back_read = take_at ys (drop k array) k long
