-- The lines of the text of a sheet: each is whole, for no field has a newline; and they are the first line and the columns' lines.
use Rattle.std.specs.Prelude.{None, Option, Some}
use Prim.Native.Nat.{ℕ, zero, suc, ◌+◌, ◌/◌, ◌%◌, ◌≤◌}
use borrow.Author.Tests.{ne_eqb}
use mathlib.Core.Path.{◌≡◌, refl, ap, ◌∙◌}
use mathlib.Core.Bool.{Bool, true, false}
use mathlib.Core.List.{List, [], ◌∷◌, ◌++◌, append-nil, append_assoc}
use native.Mathlib.Omega.{arith}
use lib.Dec.{eqb, ltb}
use Rattle.seq.specs.Choice.{pick}
use Rattle.seq.specs.Lists.{tabulate}
use Rattle.fields.specs.Bytes.{tab, newline}
use Rattle.fields.specs.Digits.{digit_for, digits_of}
use Rattle.fields.specs.Texts.{bits_text, count_text}
use Rattle.head.specs.Words.{thin_word, target_word, within_word, second_edition}
use Rattle.form.specs.Form.{col_word}
use Rattle.form.specs.Sheets.{Wish, target, within, Sheet, cap_text, wish_text, edition_text, head_text, entries_text, column_text, columns_text, sheet_text}
use Rattle.gathering.specs.Lines.{Lines, no_lines, after}
use Rattle.gathering.proofs.Indexed.{with_line}
use Rattle.gathering.proofs.Parted.{pieces_are_the_whole}
use Rattle.saved.specs.Whole.{newlines, Whole}
use Rattle.saved.proofs.Newlines.{plain-two, line_more}

-- a byte that is no newline, and a text behind it
plain-after : (b : ℕ) (text : List ℕ) → (b ≡ newline → ⊥) → newlines text ≡ 0 → newlines (b ∷ text) ≡ 0
unfolding newlines
plain-after b text h g = rw (ne_eqb b newline h, g)

-- digits
digit_above : (d : ℕ) → 48 ≤ digit_for d
digit_above d = go (ltb d 10)
  where
    go : (t : Bool) → 48 ≤ pick t (48 + d) (55 + d)
    go true = omega arith
    go false = omega arith

pub digits_plain : (base x k : ℕ) → newlines (digits_of base x k) ≡ 0
unfolding digits_of newlines
digits_plain base x zero = refl
digits_plain base x (suc k) =
    plain-two (digits_of base (x / base) k) (digit_for (x % base) ∷ []) (digits_plain base (x / base) k)
    (plain-after (digit_for (x % base)) [] (λ e. absurd (omega (arith, digit_above (x % base)))) refl)

-- the rule
cap_plain : (cap : Option ℕ) → newlines (cap_text cap) ≡ 0
unfolding newlines
cap_plain None = refl
cap_plain (Some c) = digits_plain 10 c _

wish_plain : (w : Wish) → newlines (wish_text w) ≡ 0
unfolding newlines
wish_plain (target t) = plain-two target_word (count_text t) refl (digits_plain 10 t _)
wish_plain (within a cap) =
    plain-two within_word (bits_text a ++ (tab ∷ cap_text cap)) refl
    (plain-two (bits_text a) (tab ∷ cap_text cap) (digits_plain 16 a 16) (plain-after tab (cap_text cap) (λ e. absurd (omega arith)) (cap_plain cap)))

-- the end of the first line, before its newline
lead : ℕ → List ℕ
lead e = pick (eqb e 2) (9 ∷ 50 ∷ []) []

lead_ends : (e : ℕ) → edition_text e ≡ lead e ++ (newline ∷ [])
unfolding lead
lead_ends e = go (eqb e 2)
  where
    go : (t : Bool) → pick t second_edition (newline ∷ []) ≡ pick t (9 ∷ 50 ∷ []) [] ++ (newline ∷ [])
    go true = refl
    go false = refl

lead_plain : (e : ℕ) → newlines (lead e) ≡ 0
unfolding lead newlines
lead_plain e = go (eqb e 2)
  where
    go : (t : Bool) → newlines (pick t (9 ∷ 50 ∷ []) []) ≡ 0
    go true = refl
    go false = refl

-- a field, a tab, and what follows
tab-plain : (a b : List ℕ) → newlines a ≡ 0 → newlines b ≡ 0 → newlines (a ++ (tab ∷ b)) ≡ 0
tab-plain a b h g = plain-two a (tab ∷ b) h (plain-after tab b (λ e. absurd (omega arith)) g)

-- the first line
pub head_whole : (s : Sheet) → Whole (head_text s)
unfolding newlines
head_whole s =
    record {
      body = thin_word ++ body;
      ends = rw (lead_ends s.edition) (simp append_assoc);
      plain =
          plain-two thin_word body refl
          (tab-plain (count_text s.m) _ (digits_plain 10 s.m _)
          (tab-plain (count_text s.n) _ (digits_plain 10 s.n _)
          (tab-plain (bits_text s.seed) _ (digits_plain 16 s.seed 16)
          (plain-two (wish_text s.wish) (lead s.edition) (wish_plain s.wish) (lead_plain s.edition)))));
    }
  where
    body : List ℕ
    body = count_text s.m ++ (tab ∷ (count_text s.n ++ (tab ∷ (bits_text s.seed ++ (tab ∷ (wish_text s.wish ++ lead s.edition))))))

-- a column's line
entries_plain : (e : ℕ → ℕ) (k : ℕ) → newlines (entries_text e k) ≡ 0
unfolding entries_text newlines
entries_plain e zero = refl
entries_plain e (suc k) = tab-plain (entries_text e k) (bits_text (e k)) (entries_plain e k) (digits_plain 16 (e k) 16)

pub column_whole : (n w : ℕ) (e : ℕ → ℕ) → Whole (column_text n w e)
unfolding column_text newlines
column_whole n w e =
    record {
      body = col_word ++ (bits_text w ++ entries_text e n);
      ends = simp append_assoc;
      plain = plain-two col_word (bits_text w ++ entries_text e n) refl (plain-two (bits_text w) (entries_text e n) (digits_plain 16 w 16) (entries_plain e n));
    }

-- the columns' lines behind whole lines
columns_lines : (s : Lines) (n : ℕ) (w : ℕ → ℕ) (e : ℕ → ℕ → ℕ) (k : ℕ) → s.rest ≡ []
    → after s (columns_text n w e k) ≡ record { done = s.done ++ tabulate (λ j. column_text n (w j) (e j)) k; rest = [] }
unfolding columns_text tabulate after
columns_lines s n w e zero r = rw (append-nil s.done, r)
columns_lines s n w e (suc k) r =
    let line : List ℕ = column_text n (w k) (e k) in
    let lines : List (List ℕ) = tabulate (λ j. column_text n (w j) (e j)) k in
    pieces_are_the_whole s (columns_text n w e k) line ∙ ap (λ (x : Lines). after x line) (columns_lines s n w e k r)
    ∙ line_more (record { done = s.done ++ lines; rest = [] }) line refl (column_whole n (w k) (e k))
    ∙ ap (λ (x : List (List ℕ)). record { done = x; rest = [] }) (append_assoc s.done lines (line ∷ []))

-- The lines of the text of a sheet are its first line and its columns' lines.
pub sheet_lines : (s : Sheet) → after no_lines (sheet_text s)
    ≡ record { done = head_text s ∷ tabulate (λ j. column_text s.n (s.weight j) (s.entry j)) s.m; rest = [] }
sheet_lines s =
    pieces_are_the_whole no_lines (head_text s) (columns_text s.n s.weight s.entry s.m)
    ∙ ap (λ (x : Lines). after x (columns_text s.n s.weight s.entry s.m)) (line_more no_lines (head_text s) refl (head_whole s))
    ∙ columns_lines (with_line no_lines (head_text s)) s.n s.weight s.entry s.m refl
