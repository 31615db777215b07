-- A sheet that is of the form comes out unchanged: every line behind the first is kept, and their number is the one that the first line says.
use borrow.Author.Tests.{eq-eqb, ne_eqb, lt-ltb, le-leb}
use Prim.Native.Nat.{ℕ, zero, suc, ◌+◌, ◌≤◌, ◌<◌}
use mathlib.Core.Path.{◌≡◌, refl, sym, ap, ◌∙◌}
use mathlib.Core.Bool.{Bool, true, false, ◌&&◌, and-false}
use mathlib.Core.List.{List, [], ◌∷◌, ◌++◌, append-nil}
use native.Mathlib.Omega.{arith}
use lib.Dec.{eqb, ltb}
use lib.ListN.{length}
use Rattle.seq.specs.Lists.{tabulate}
use Rattle.seq.specs.Keep.{count}
use Rattle.seq.proofs.Filling.{length-tab, get_or-tab}
use Rattle.head.specs.FirstLine.{head_of}
use Rattle.head.specs.declared.Head.{Head}
use Rattle.form.specs.Form.{line_long, is_column, wrong_line}
use Rattle.form.specs.Sheets.{Sheet, head_text, column_text, columns_text, sheet_text, Fits, sheet_of}
use Rattle.form.proofs.Segments.{whole_seg}
use Rattle.form.proofs.OfForm.{head_read, column_good, length_column}
use Rattle.form.proofs.Taken.{taken_is_of_the_form}
use Rattle.gathering.specs.Lines.{Lines, no_lines, after, line_at}
use Rattle.keeping.specs.Saved.{many, lost_text, corrected, good_sheet, none_left, front_text, judged, salvaged}
use Rattle.gathering.specs.Kept.{is_first, is_line, kept_by, kept, kept_text}
use Rattle.gathering.proofs.Indexed.{first_not_kept}
use Rattle.saved.proofs.Texts.{sheet_lines}
use Rattle.saved.proofs.Good.{corrected_is}

-- the text of a good first line is one, and its columns are what it says
pub first_good : (s : Sheet) → Fits s → (is_first (head_text s) ≡ true) × ((head_of (head_text s)).m ≡ s.m) × ((head_of (head_text s)).n ≡ s.n)
unfolding is_first
first_good s fit =
    let e = head_read s fit (whole_seg (head_text s)) in
    (rw (e.0, e.1) (eq-eqb (length (head_text s)) (length (head_text s)) refl), ap (λ (h : Head). h.m) e.1, ap (λ (h : Head). h.n) e.1)

-- the text of a column's line is one
line_good : (n w : ℕ) (e : ℕ → ℕ) → is_column (column_text n w e) n 0 ≡ true → is_line n (column_text n w e) ≡ true
unfolding is_line
line_good n w e h = rw (eq-eqb (length (column_text n w e)) (line_long n) (length_column n w e), h)

keeps : (first : List ℕ) (j : ℕ) (line : List ℕ) → is_first first ≡ true → 0 < j → j ≤ (head_of first).m → is_line (head_of first).n line ≡ true
    → kept_by first j line ≡ true
unfolding kept_by
keeps first j line h a b g = rw (h, lt-ltb 0 j a, le-leb j (head_of first).m b, g)

-- all but the first of m + 1 lines are kept
module _ (f : ℕ → Bool) (off : f 0 ≡ false) where
  count-rest : (m : ℕ) → ((j : ℕ) → j < m → f (suc j) ≡ true) → count f (suc m) ≡ m
  unfolding count
  count-rest zero h = rw off
  count-rest (suc m) h = rw (h m (omega arith)) (ap suc (count-rest m (λ j g. h j (omega arith))))

  text_rest : (line : ℕ → List ℕ) (n : ℕ) (w : ℕ → ℕ) (e : ℕ → ℕ → ℕ) (m : ℕ) → ((j : ℕ) → j < m → f (suc j) ≡ true)
      → ((j : ℕ) → j < m → line (suc j) ≡ column_text n (w j) (e j)) → kept_text f line (suc m) ≡ columns_text n w e m
  unfolding kept_text columns_text
  text_rest line n w e zero h g = rw off
  text_rest line n w e (suc m) h g =
      rw (h m (omega arith), g m (omega arith))
      (ap (λ (x : List ℕ). x ++ column_text n (w m) (e m)) (text_rest line n w e m (λ j l. h j (omega arith)) (λ j l. g j (omega arith))))

  lost_rest : (m : ℕ) → ((j : ℕ) → j < m → f (suc j) ≡ true) → lost_text f 1 m ≡ []
  unfolding lost_text
  lost_rest zero h = refl
  lost_rest (suc m) h =
      let p : 1 + m ≡ suc m = omega arith in
      rw (p, h m (omega arith)) (append-nil (lost_text f 1 m) ∙ lost_rest m (λ j g. h j (omega arith)))

some_left : (m : ℕ) → (ltb 0 m && eqb m 0) ≡ false
some_left zero = refl
some_left (suc m) = rw (ne_eqb (suc m) 0 (λ e. absurd (omega arith))) (and-false (ltb 0 (suc m)))

module _ (s : Sheet) (fit : Fits s) where
  lines : Lines
  lines = record { done = head_text s ∷ tabulate (λ j. column_text s.n (s.weight j) (s.entry j)) s.m; rest = [] }

  line_at_lem : (j : ℕ) → j < s.m → line_at lines (suc j) ≡ column_text s.n (s.weight j) (s.entry j)
  unfolding lines
  line_at_lem j h = get_or-tab (λ j. column_text s.n (s.weight j) (s.entry j)) s.m j [] h

  kept_at : (j : ℕ) → j < s.m → kept lines (suc j) ≡ true
  unfolding lines
  kept_at j h =
      let f = first_good s fit in
      keeps (head_text s) (suc j) (line_at lines (suc j)) f.0 (omega arith) (omega (arith, f.1))
      (rw (line_at_lem j h, f.2) (line_good s.n (s.weight j) (s.entry j)
      (column_good s.n (s.weight j) (s.entry j) (fit.weights j h) (λ i l. fit.entries j i h l))))

  all_lines : many lines ≡ suc s.m
  unfolding lines
  all_lines = omega (arith, length-tab (λ j. column_text s.n (s.weight j) (s.entry j)) s.m)

  counted : count (kept lines) (many lines) ≡ s.m
  unfolding lines
  counted = ap (count (kept lines)) all_lines ∙ count-rest (kept lines) (first_not_kept (head_text s) (head_text s)) s.m kept_at

  written : kept_text (kept lines) (line_at lines) (many lines) ≡ columns_text s.n s.weight s.entry s.m
  unfolding lines
  written =
      ap (kept_text (kept lines) (line_at lines)) all_lines
      ∙ text_rest (kept lines) (first_not_kept (head_text s) (head_text s)) (line_at lines) s.n s.weight s.entry s.m kept_at line_at_lem

  left : none_left lines ≡ false
  unfolding lines
  left = rw ((first_good s fit).1, counted) (some_left s.m)

  good_is_sheet : good_sheet lines ≡ sheet_text s
  unfolding lines
  good_is_sheet =
      ap (λ (k : ℕ). corrected (head_text s) k ++ kept_text (kept lines) (line_at lines) (many lines)) counted
      ∙ ap (λ (x : List ℕ). x ++ kept_text (kept lines) (line_at lines) (many lines)) (corrected_is s fit.columns s.m)
      ∙ ap (λ (x : List ℕ). head_text s ++ x) written

  front_is : front_text lines ≡ sheet_text s
  unfolding lines front_text
  front_is = rw ((first_good s fit).0, left) good_is_sheet

  judged_is : judged lines ≡ s.m
  unfolding lines judged
  judged_is = rw ((first_good s fit).0, left) (omega (arith, all_lines))

  sheet_saved : salvaged (after no_lines (sheet_text s)) ≡ sheet_text s
  unfolding lines
  sheet_saved =
      ap salvaged (sheet_lines s)
      ∙ ap (λ (x : List ℕ). x ++ lost_text (kept lines) 1 (judged lines)) front_is
      ∙ ap (λ (k : ℕ). sheet_text s ++ lost_text (kept lines) 1 k) judged_is
      ∙ ap (λ (x : List ℕ). sheet_text s ++ x) (lost_rest (kept lines) (first_not_kept (head_text s) (head_text s)) s.m kept_at)
      ∙ append-nil (sheet_text s)

-- A sheet of the form comes out unchanged.
pub sheet_is_unchanged : (text : List ℕ) → wrong_line text ≡ 0 → salvaged (after no_lines text) ≡ text
sheet_is_unchanged text h =
    let a = taken_is_of_the_form text h in
    ap (λ (x : List ℕ). salvaged (after no_lines x)) a.written ∙ sheet_saved (sheet_of text) a.fits ∙ sym a.written
