-- Where only "bad" is written: 1 exactly where the reader finds line 1 wrong, and 2 exactly where columns are said to follow and none is left.
use borrow.Author.Tests.{eqb-true, eq-eqb, ltb-true, lt-ltb}
use Prim.Native.Nat.{ℕ, ◌+◌, ◌-◌, ◌<◌}
use mathlib.Core.Path.{◌≡◌, refl, sym, ap, ◌∙◌, subst}
use mathlib.Core.Bool.{Bool, true, false, false≢true}
use mathlib.Core.List.{List, [], ◌∷◌, ◌++◌, append-nil}
use native.Mathlib.Omega.{arith}
use native.Mathlib.Decide.{dec_lt}
use lib.Dec.{eqb, ltb}
use lib.ListN.{length, get_or, drop, take-append-drop}
use Rattle.seq.specs.Choice.{pick}
use Rattle.seq.specs.Keep.{count}
use Rattle.seq.proofs.Choosing.{both}
use Rattle.fields.specs.Digits.{digits_of}
use Rattle.fields.specs.Texts.{width_in, note_text}
use Rattle.head.specs.FirstLine.{has_head, head_of}
use Rattle.head.specs.declared.Head.{Head}
use Rattle.form.specs.Form.{end_of, columns_from, wrong_after, wrong_line}
use Rattle.form.specs.Sheets.{head_text, sheet_of}
use Rattle.form.proofs.Segments.{Seg, seg_first, whole_seg}
use Rattle.form.proofs.OfForm.{head_read}
use Rattle.form.proofs.Taken.{head_said, head_fits}
use Rattle.form.proofs.Verdicts.{first_wrong}
use Rattle.keeping.specs.Words.{bad_word}
use Rattle.gathering.specs.Lines.{Lines, no_lines, more, after, line_at}
use Rattle.keeping.specs.Saved.{many, lost_text, good_sheet, none_left, front_text, judged, salvaged}
use Rattle.gathering.specs.Kept.{is_first, kept}
use Rattle.gathering.proofs.Indexed.{with_line, many_lines, line_before, no_line, no_first}
use Rattle.gathering.proofs.Parted.{pieces_are_the_whole}
use Rattle.saved.specs.Whole.{joined}
use Rattle.saved.specs.Kept.{NoColumn}
use Rattle.saved.proofs.Newlines.{lines_are_the_text, line_stands, line_more}
use Rattle.saved.proofs.Texts.{head_whole}
use Rattle.saved.proofs.Good.{first_is}
use Rattle.saved.proofs.Same.{first_good}

-- a line that is there stays, whatever is read behind it
stays_one : (s : Lines) (b j : ℕ) → j < length s.done → (j < length (more s b).done) × (line_at (more s b) j ≡ line_at s j)
unfolding more
stays_one s b j h = go (eqb b 10)
  where
    line : List ℕ
    line = s.rest ++ (b ∷ [])

    go : (t : Bool) → (j < length (pick t (with_line s line) (record { done = s.done; rest = line })).done)
        × (line_at (pick t (with_line s line) (record { done = s.done; rest = line })) j ≡ line_at s j)
    go true = (omega (arith, many_lines s line), line_before s line j h)
    go false = (h, refl)

stays : (s : Lines) (text : List ℕ) (j : ℕ) → j < length s.done → line_at (after s text) j ≡ line_at s j
unfolding after
stays s [] j h = refl
stays s (b ∷ text) j h = stays (more s b) text j (stays_one s b j h).0 ∙ (stays_one s b j h).1

-- the first line of a text that the reader takes it from
first_line_is : (text : List ℕ) → has_head text ≡ true → line_at (after no_lines text) 0 ≡ head_text (sheet_of text)
first_line_is text h =
    let line : List ℕ = head_text (sheet_of text) in
    let e : line ++ drop (length line) text ≡ text =
    ap (λ (x : List ℕ). x ++ drop (length line) text) (sym (head_said text h).stands.is) ∙ take-append-drop (length line) text in
    ap (λ (x : List ℕ). line_at (after no_lines x) 0) (sym e)
    ∙ ap (λ (x : Lines). line_at x 0) (pieces_are_the_whole no_lines line (drop (length line) text))
    ∙ ap (λ (x : Lines). line_at (after x (drop (length line) text)) 0) (line_more no_lines line refl (head_whole (sheet_of text)))
    ∙ stays (with_line no_lines line) (drop (length line) text) 0 (omega arith)

-- a good line with more behind it is read as the first
more-behind : (line rest text : List ℕ) → is_first line ≡ true → line ++ rest ≡ text → has_head text ≡ true
more-behind line rest text h e =
    let f = first_is line h in
    let t : head_text (sheet_of line) ++ rest ≡ text = ap (λ (x : List ℕ). x ++ rest) (sym f.1) ∙ e in
    let w : Seg text 0 (length text) (head_text (sheet_of line) ++ rest) = subst (λ (x : List ℕ). Seg text 0 (length text) x) (sym t) (whole_seg text) in
    (head_read (sheet_of line) (head_fits line f.0) (seg_first (head_text (sheet_of line)) rest w)).0

-- The first line is good exactly where the reader finds it so.
pub first_is_the_readers : (text : List ℕ) → is_first (line_at (after no_lines text) 0) ≡ has_head text
unfolding joined
first_is_the_readers text = go (has_head text) (is_first line) refl refl
  where
    line : List ℕ
    line = line_at (after no_lines text) 0

    there : is_first line ≡ true → 0 < length (after no_lines text).done
    there h = at (dec_lt 0 (length (after no_lines text).done))
      where
        at : Dec (0 < length (after no_lines text).done) → 0 < length (after no_lines text).done
        at (yes l) = l
        at (no l) = absurd (false≢true (sym (ap is_first (no_line (after no_lines text) 0 (omega arith)) ∙ no_first) ∙ h))

    go : (a b : Bool) → has_head text ≡ a → is_first line ≡ b → b ≡ a
    go true true e f = refl
    go false false e f = refl
    go true false e f =
        absurd (false≢true (sym f ∙ ap is_first (first_line_is text e) ∙ (first_good (sheet_of text) (head_fits text e)).0))
    go false true e f =
        let s = line_stands text (after no_lines text) (lines_are_the_text text) 0 (there f) in
        absurd (false≢true (sym e ∙ more-behind line (joined (drop 1 (after no_lines text).done) ++ (after no_lines text).rest) text f s))

-- no line but the first has the number 1
wrong_later : (text : List ℕ) (good : ℕ) → wrong_after text (head_of text) good ≡ 1 → ⊥
wrong_later text good = go (ltb good (head_of text).m) (eqb (length text) (end_of (head_of text)))
  where
    go : (a b : Bool) → pick a (good + 2) (pick b 0 ((head_of text).m + 2)) ≡ 1 → ⊥
    go true b e = absurd (omega arith)
    go false true e = absurd (omega arith)
    go false false e = absurd (omega arith)

wrong_first : (text : List ℕ) → wrong_line text ≡ 1 → has_head text ≡ false
unfolding wrong_line
wrong_first text h = go (has_head text) h
  where
    good : ℕ
    good = columns_from text (head_of text).n (head_of text).next (head_of text).m

    go : (t : Bool) → pick t (wrong_after text (head_of text) good) 1 ≡ 1 → t ≡ false
    go true e = absurd (wrong_later text good e)
    go false e = refl

-- what is written, by whether the first line is good and a column is left
module _ (s : Lines) where
  written_bad : is_first (line_at s 0) ≡ false → salvaged s ≡ note_text bad_word 1
  unfolding front_text judged lost_text
  written_bad h = rw h (append-nil (note_text bad_word 1))

  written_none : is_first (line_at s 0) ≡ true → none_left s ≡ true → salvaged s ≡ note_text bad_word 2
  unfolding front_text judged lost_text
  written_none h g = rw (h, g) (append-nil (note_text bad_word 2))

  pub written-good : is_first (line_at s 0) ≡ true → none_left s ≡ false → salvaged s ≡ good_sheet s ++ lost_text (kept s) 1 (many s - 1)
  unfolding front_text judged
  written-good h g = rw (h, g)

-- the three differ
opens_bad : (k : ℕ) → get_or (note_text bad_word k) 0 0 ≡ 98
unfolding note_text
opens_bad k = refl

opens_thin : (s : Lines) (rest : List ℕ) → get_or (good_sheet s ++ rest) 0 0 ≡ 116
opens_thin s rest = refl

good_not_bad : (s : Lines) (rest : List ℕ) (k : ℕ) → good_sheet s ++ rest ≡ note_text bad_word k → ⊥
good_not_bad s rest k e =
    let p : ◌≡◌ {A = ℕ} 116 98 = sym (opens_thin s rest) ∙ ap (λ (x : List ℕ). get_or x 0 0) e ∙ opens_bad k in
    absurd (omega arith)

bad_differ : note_text bad_word 1 ≡ note_text bad_word 2 → ⊥
unfolding note_text digits_of width_in
bad_differ e =
    let p : ◌≡◌ {A = ℕ} 49 50 = ap (λ (x : List ℕ). get_or x 4 0) e in
    absurd (omega arith)

-- "bad" and 1 is written exactly where line 1 is wrong.
pub bad_1_exactly : (text : List ℕ) → (salvaged (after no_lines text) ≡ note_text bad_word 1 → wrong_line text ≡ 1)
    × (wrong_line text ≡ 1 → salvaged (after no_lines text) ≡ note_text bad_word 1)
bad_1_exactly text = (
  λ e. sym (first_wrong text (head_of text) refl (go (is_first (line_at s 0)) (none_left s) refl refl e)),
  λ e. written_bad s (first_is_the_readers text ∙ wrong_first text e),
)
  where
    s : Lines
    s = after no_lines text

    go : (a b : Bool) → is_first (line_at s 0) ≡ a → none_left s ≡ b → salvaged s ≡ note_text bad_word 1 → has_head text ≡ false
    go false b f g e = sym (first_is_the_readers text) ∙ f
    go true true f g e = absurd (bad_differ (sym e ∙ written_none s f g))
    go true false f g e = absurd (good_not_bad s (lost_text (kept s) 1 (many s - 1)) 1 (sym (written-good s f g) ∙ e))

-- "bad" and 2 is written exactly where line 1 is not, it says that there are columns, and none is left.
pub bad_2_exactly : (text : List ℕ) → (salvaged (after no_lines text) ≡ note_text bad_word 2 → NoColumn text (after no_lines text))
    × (NoColumn text (after no_lines text) → salvaged (after no_lines text) ≡ note_text bad_word 2)
bad_2_exactly text = (λ e. go (is_first (line_at s 0)) (none_left s) refl refl e, back)
  where
    s : Lines
    s = after no_lines text

    same : has_head text ≡ true → (head_of (line_at s 0)).m ≡ (head_of text).m
    same h = ap (λ (x : List ℕ). (head_of x).m) (first_line_is text h) ∙ (first_good (sheet_of text) (head_fits text h)).1

    go : (a b : Bool) → is_first (line_at s 0) ≡ a → none_left s ≡ b → salvaged s ≡ note_text bad_word 2 → NoColumn text s
    go false b f g e = absurd (bad_differ (sym (written_bad s f) ∙ e))
    go true false f g e = absurd (good_not_bad s (lost_text (kept s) 1 (many s - 1)) 2 (sym (written-good s f g) ∙ e))
    go true true f g e =
        let ok : has_head text ≡ true = sym (first_is_the_readers text) ∙ f in
        let p = both (ltb 0 (head_of (line_at s 0)).m) (eqb (count (kept s) (many s)) 0) g in
        record {
          first = λ w. false≢true (sym (wrong_first text w) ∙ ok);
          above = omega (arith, same ok, ltb-true 0 (head_of (line_at s 0)).m p.0);
          none = eqb-true (count (kept s) (many s)) 0 p.1;
        }

    good : (NoColumn text s) → (t : Bool) → has_head text ≡ t → t ≡ true
    good n true e = refl
    good n false e = absurd (n.first (sym (first_wrong text (head_of text) refl e)))

    back : NoColumn text s → salvaged s ≡ note_text bad_word 2
    back n =
        let ok : has_head text ≡ true = good n (has_head text) refl in
        let l : ltb 0 (head_of (line_at s 0)).m ≡ true = lt-ltb 0 (head_of (line_at s 0)).m (omega (arith, same ok, n.above)) in
        written_none s (first_is_the_readers text ∙ ok) (rw (l, eq-eqb (count (kept s) (many s)) 0 n.none))
