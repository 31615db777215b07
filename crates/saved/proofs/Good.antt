-- Where the first line is good, what is written before the "lost" lines is of the form that the reader takes, and says the first line's own
-- numbers and those of the kept columns; each kept line stands in what was read.
use borrow.Author.Tests.{eqb-true}
use Prim.Native.Nat.{ℕ, zero, suc, ◌+◌, ◌*◌, ◌≤◌, ◌<◌}
use mathlib.Core.Path.{◌≡◌, refl, sym, ap, ◌∙◌, subst}
use mathlib.Core.Bool.{Bool, true, false, false≢true}
use mathlib.Core.List.{List, [], ◌∷◌, ◌++◌}
use native.Mathlib.Omega.{arith}
use native.Mathlib.Decide.{dec_lt}
use lib.Dec.{eqb}
use lib.ListN.{length, get_or, drop, get_or-append}
use lib.Seq.{drop_at, get_or_at}
use Rattle.seq.specs.Choice.{pick}
use Rattle.seq.specs.Keep.{keep, count}
use Rattle.seq.proofs.Choosing.{both}
use Rattle.seq.proofs.Keeping.{length-keep, keep-good}
use Rattle.fields.specs.Bytes.{tab}
use Rattle.fields.specs.Digits.{is_digit}
use Rattle.fields.specs.Fields.{count_at}
use Rattle.fields.specs.Texts.{bits_text, count_text}
use Rattle.fields.specs.declared.Field.{Field}
use Rattle.fields.proofs.BitsBack.{bits_below}
use Rattle.head.specs.Words.{thin_word}
use Rattle.head.specs.FirstLine.{has_head, head_of}
use Rattle.form.specs.Form.{line_long, is_column}
use Rattle.form.specs.Sheets.{Sheet, wish_text, edition_text, first_line, head_text, column_text, columns_text, sheet_text, Fits, sheet_of, Says}
use Rattle.form.proofs.Segments.{Seg, seg_first, seg_rest, seg_byte, seg_count, seg_whole, whole_seg}
use Rattle.form.proofs.OfForm.{of_the_form_is_taken}
use Rattle.form.proofs.Taken.{head_said, head_fits, column_said}
use Rattle.gathering.specs.Lines.{Lines, no_lines, after, line_at}
use Rattle.keeping.specs.Saved.{many, corrected, good_sheet}
use Rattle.gathering.specs.Kept.{is_first, is_line, kept_by, kept, kept_text}
use Rattle.gathering.proofs.Indexed.{no_line, nothing-kept, kept_is, first-sizes, count_few}
use Rattle.saved.specs.Kept.{kept_place, kept_line, Stands, weight_in, entry_in, saved_sheet}
use Rattle.saved.proofs.Newlines.{lines_are_the_text, line_stands}

-- a first line with another number of columns
pub corrected_is : (s : Sheet) → s.m ≤ 32 → (k : ℕ) → corrected (head_text s) k ≡ first_line k s.n s.seed s.wish s.edition
corrected_is s h k =
    let t : List ℕ = head_text s in
    let rest : List ℕ = tab ∷ (count_text s.n ++ (tab ∷ (bits_text s.seed ++ (tab ∷ (wish_text s.wish ++ edition_text s.edition))))) in
    let a : Seg t 5 (length t) (count_text s.m ++ rest) = seg_rest thin_word (count_text s.m ++ rest) (whole_seg t) in
    let b : Seg t (5 + length (count_text s.m)) (length t) rest = seg_rest (count_text s.m) rest a in
    let c : count_at t 5 ≡ record { value = s.m; next = 5 + length (count_text s.m) } =
    (seg_count s.m (omega arith) (seg_first (count_text s.m) rest a) (ap is_digit (seg_byte b))).1 in
    let n : (count_at t 5).next ≡ 5 + length (count_text s.m) = ap (λ (f : Field). f.next) c in
    let d : drop (5 + length (count_text s.m)) t ≡ rest =
    drop_at (thin_word ++ count_text s.m) rest (5 + length (count_text s.m)) (omega arith) in
    ap (λ (x : List ℕ). thin_word ++ (count_text k ++ x)) (ap (λ (x : ℕ). drop x t) n ∙ d)

-- a good first line is the text of what it says
pub first_is : (first : List ℕ) → is_first first ≡ true → (has_head first ≡ true) × (first ≡ head_text (sheet_of first))
unfolding is_first
first_is first h =
    let a = both (has_head first) (eqb (head_of first).next (length first)) h in
    let e : (head_of first).next ≡ length first = eqb-true (head_of first).next (length first) a.1 in
    (a.0, seg_whole first (head_text (sheet_of first)) (head_of first).next (head_said first a.0).stands (sym e))

-- and so is a column's line
line_is : (n : ℕ) (line : List ℕ) → is_line n line ≡ true → line ≡ column_text n (weight_in line) (entry_in line)
unfolding is_line
line_is n line h =
    let a = both (eqb (length line) (line_long n)) (is_column line n 0) h in
    seg_whole line (column_text n (weight_in line) (entry_in line)) (0 + line_long n) (column_said line n 0 a.1)
    (eqb-true (length line) (line_long n) a.0 ∙ omega arith)

columns_same : (n : ℕ) (l l' : ℕ → List ℕ) (k : ℕ) → ((j : ℕ) → j < k → l j ≡ l' j)
    → columns_text n (λ j. weight_in (l j)) (λ j. entry_in (l j)) k ≡ columns_text n (λ j. weight_in (l' j)) (λ j. entry_in (l' j)) k
unfolding columns_text
columns_same n l l' zero h = refl
columns_same n l l' (suc k) h = rw (columns_same n l l' k (λ j g. h j (omega arith)), h k (omega arith))

-- the kept lines are the lines of columns
kept-columns : (f : ℕ → Bool) (line : ℕ → List ℕ) (n k : ℕ) → ((j : ℕ) → f j ≡ true → is_line n (line j) ≡ true)
    → kept_text f line k ≡ columns_text n (λ j. weight_in (line (get_or (keep f k) j 0))) (λ j. entry_in (line (get_or (keep f k) j 0))) (count f k)
unfolding kept_text keep count columns_text
kept-columns f line n zero h = refl
kept-columns f line n (suc k) h = go (f k) refl (kept-columns f line n k h)
  where
    of : List ℕ → ℕ → List ℕ
    of c m = columns_text n (λ j. weight_in (line (get_or c j 0))) (λ j. entry_in (line (get_or c j 0))) m

    go : (t : Bool) → f k ≡ t → kept_text f line k ≡ of (keep f k) (count f k)
        → pick t (kept_text f line k ++ line k) (kept_text f line k)
        ≡ of (pick t (keep f k ++ (k ∷ [])) (keep f k)) (pick t (suc (count f k)) (count f k))
    go true e r =
        let c : ℕ = count f k in
        let a : of (keep f k) c ≡ of (keep f k ++ (k ∷ [])) c =
        columns_same n (λ j. line (get_or (keep f k) j 0)) (λ j. line (get_or (keep f k ++ (k ∷ [])) j 0)) c
        (λ j g. ap line (sym (get_or-append (keep f k) (k ∷ []) 0 j (omega (arith, length-keep f k))))) in
        let b : line k ≡ line (get_or (keep f k ++ (k ∷ [])) c 0) = ap line (sym (get_or_at (keep f k) k [] 0 c (length-keep f k))) in
        let d : line k ≡ column_text n (weight_in (line (get_or (keep f k ++ (k ∷ [])) c 0))) (entry_in (line (get_or (keep f k ++ (k ∷ [])) c 0))) =
        line_is n (line k) (h k e) ∙ ap (λ (x : List ℕ). column_text n (weight_in x) (entry_in x)) b in
        ap (λ (x : List ℕ). x ++ line k) (r ∙ a) ∙ ap (λ (x : List ℕ). of (keep f k ++ (k ∷ [])) c ++ x) d
    go false e r = r

module _ (s : Lines) (h : is_first (line_at s 0) ≡ true) where
  saved_fits : Fits (saved_sheet s)
  saved_fits =
      let fit = head_fits (line_at s 0) (first_is (line_at s 0) h).0 in
      let few : (j : ℕ) → kept s j ≡ true → (1 ≤ j) × (j ≤ 32) = λ j e.
      let x = kept_is (line_at s 0) j (line_at s j) e in (omega (arith, x.after), omega (arith, x.among, (first-sizes (line_at s 0) h).columns)) in
      record {
        columns = (count_few (kept s) 32 (many s) few).0;
        rows = fit.rows;
        seeds = fit.seeds;
        editions = fit.editions;
        wishes = fit.wishes;
        weights = λ k l. bits_below (kept_line s k) 4;
        entries = λ k i l m. bits_below (kept_line s k) (4 + 17 + 17 * i);
      }

  good_is : good_sheet s ≡ sheet_text (saved_sheet s)
  good_is =
      let f = first_is (line_at s 0) h in
      let k : ℕ = count (kept s) (many s) in
      let a : corrected (line_at s 0) k ≡ head_text (saved_sheet s) =
      ap (λ (x : List ℕ). corrected x k) f.1 ∙ corrected_is (sheet_of (line_at s 0)) (head_fits (line_at s 0) f.0).columns k in
      let b : kept_text (kept s) (line_at s) (many s) ≡ columns_text (saved_sheet s).n (saved_sheet s).weight (saved_sheet s).entry k =
      kept-columns (kept s) (line_at s) (head_of (line_at s 0)).n (many s) (λ j e. (kept_is (line_at s 0) j (line_at s j) e).is) in
      ap (λ (x : List ℕ). x ++ kept_text (kept s) (line_at s) (many s)) a ∙ ap (λ (x : List ℕ). head_text (saved_sheet s) ++ x) b

  -- What is written before the "lost" lines is of the form that the reader takes: no line of it is wrong, and what is read from it, as bits
  -- and as doubles, is what the first line and the kept lines say.
  pub good_sheet_is_taken : Says (good_sheet s) (saved_sheet s)
  good_sheet_is_taken = subst (λ (x : List ℕ). Says x (saved_sheet s)) (sym good_is) (of_the_form_is_taken (saved_sheet s) saved_fits)

kept_there : (s : Lines) (j : ℕ) → kept s j ≡ true → j < length s.done
kept_there s j e = go (dec_lt j (length s.done))
  where
    go : Dec (j < length s.done) → j < length s.done
    go (yes l) = l
    go (no l) = absurd (false≢true (sym (ap (kept_by (line_at s 0) j) (no_line s j (omega arith)) ∙ nothing-kept (line_at s 0) j) ∙ e))

-- Every kept line stands in the text that was read, byte for byte.
pub kept_line-stands : (text : List ℕ) (k : ℕ) → k < count (kept (after no_lines text)) (many (after no_lines text)) → Stands text (after no_lines text) k
kept_line-stands text k h =
    let s : Lines = after no_lines text in
    let g = keep-good (kept s) (many s) k (omega (arith, length-keep (kept s) (many s))) in
    record { is = g.0; stands = line_stands text s (lines_are_the_text text) (kept_place s k) (kept_there s (kept_place s k) g.0) }
