-- What stands before the lines of those that are lost, and that what is held says what its definition does.
use borrow.Author.Tests.{eqb-true, eq-eqb, ne_eqb, le-leb, lt-leb}
use Prim.Native.Nat.{ℕ, zero, suc, ◌+◌, ◌-◌, ◌≤◌, ◌<◌}
use mathlib.Core.Path.{◌≡◌, refl, sym, ap, ◌∙◌}
use mathlib.Core.Bool.{Bool, true, false, not}
use mathlib.Core.List.{List, [], ◌∷◌, ◌++◌, append_assoc}
use native.Mathlib.Omega.{arith}
use native.Mathlib.Decide.{dec_lt}
use lib.Dec.{eqb}
use lib.ListN.{length, get_or, take, drop, length-append, length-drop}
use lib.Seq.{take_all, drop-append-le}
use Rattle.seq.specs.Choice.{pick}
use Rattle.seq.specs.Keep.{count}
use Rattle.seq.proofs.Choosing.{both}
use Rattle.seq.proofs.Keeping.{passes}
use Rattle.fields.specs.Bytes.{tab, byte_at}
use Rattle.fields.specs.Fields.{count_at, width_at}
use Rattle.fields.specs.Texts.{count_text, note_text}
use Rattle.fields.specs.Steps.{WroteOn}
use Rattle.fields.specs.declared.Field.{Field}
use Rattle.fields.proofs.Widths.{length-count, width_most}
use Rattle.fields.proofs.Puts.{on_two}
use Rattle.fields.proofs.Numerals.{inside}
use Rattle.fields.proofs.Longer.{count_longer}
use Rattle.head.specs.Words.{thin_word}
use Rattle.head.specs.FirstLine.{has_head, head_of}
use Rattle.head.proofs.Good.{good_head, good-sizes}
use Rattle.keeping.specs.Words.{bad_word}
use Rattle.gathering.specs.Lines.{Lines, line_at}
use Rattle.keeping.specs.Saved.{many, lost_text, corrected, good_sheet, none_left, front_text, judged, salvaged}
use Rattle.gathering.specs.Kept.{is_first, kept_by, kept, kept_text}
use Rattle.gathering.specs.Steps.{most, Holding}
use Rattle.keeping.specs.Steps.{lines_in, kept_in, Opened, none_in, front_in, judged_in, held_text}
use Rattle.gathering.specs.declared.State.{State}
use Rattle.gathering.proofs.Bytewise.{reach}
use Rattle.gathering.proofs.Indexed.{no_line, nothing-kept, kept_is, kept_still}

-- the back of a list, lent by its length
pub back_is : (place : ℕ) (sheet : List ℕ) → take (length sheet - place) (drop place sheet) ≡ drop place sheet
back_is place sheet = take_all (length sheet - place) (drop place sheet) (omega (arith, length-drop place sheet))

pub good_wrote : {out o o' o'' : List ℕ} {a b r : ℕ} (kept : ℕ) (sheet back : List ℕ) → 25 + length sheet ≤ length out → length o ≡ length out
    → WroteOn thin_word 0 out a o → WroteOn (count_text kept) a o b o' → WroteOn back b o' r o'' → back ≡ drop (count_at sheet 5).next sheet
    → WroteOn (corrected sheet kept) 0 out r o''
good_wrote kept sheet back h g p q s e =
    on_two p (on_two q (rw e at s) (omega (arith, p.ends, length-count kept, width_most kept))) (omega arith)

-- of a piece something is held, of none nothing
some-held : (xs : List ℕ) → 0 < length xs → 0 < length (take most xs)
some-held [] q = absurd (omega arith)
some-held (x ∷ xs) q = omega arith

none_held : (xs : List ℕ) → length xs ≤ 0 → length (take most xs) ≡ 0
none_held [] q = refl
none_held (x ∷ xs) q = absurd (omega arith)

-- in a good first line a tab follows the number of columns
count_inside : (first : List ℕ) → is_first first ≡ true → (count_at first 5).next < length first
unfolding is_first
count_inside first h =
    let a = both (has_head first) (eqb (head_of first).next (length first)) h in
    let z = good-sizes first 5 (good_head first a.0).sizes in
    let t : byte_at first (count_at first 5).next ≡ 9 = eqb-true (byte_at first (count_at first 5).next) tab z.parted in
    inside first (count_at first 5).next (omega arith)

-- a first line that is corrected with more behind it
corrected-more : (first more : List ℕ) (m : ℕ) → is_first first ≡ true → corrected (first ++ more) m ≡ corrected first m ++ more
corrected-more first more m h =
    let l : 5 + width_at first 5 < length first = count_inside first h in
    let c : (count_at (first ++ more) 5).next ≡ (count_at first 5).next = ap (λ (f : Field). f.next) (count_longer first more 5 l) in
    let d : drop (count_at (first ++ more) 5).next (first ++ more) ≡ drop (count_at first 5).next first ++ more =
    ap (λ (k : ℕ). drop k (first ++ more)) c ∙ drop-append-le (count_at first 5).next first more (omega arith) in
    ap (λ (x : List ℕ). thin_word ++ (count_text m ++ x)) d
    ∙ ap (λ (x : List ℕ). thin_word ++ x) (sym (append_assoc (count_text m) (drop (count_at first 5).next first) more))
    ∙ sym (append_assoc thin_word (count_text m ++ drop (count_at first 5).next first) more)

lost_same : (f g : ℕ → Bool) (a k : ℕ) → ((j : ℕ) → f j ≡ g j) → lost_text f a k ≡ lost_text g a k
unfolding lost_text
lost_same f g a zero e = refl
lost_same f g a (suc k) e = rw (lost_same f g a k e, e (a + k))

module _ {s : Lines} {h : State} {room marks : List ℕ} (e : Holding s h room marks) where
  -- a piece without a newline is not kept
  last_lost : kept s (length s.done) ≡ false
  last_lost = ap (kept_by (line_at s 0) (length s.done)) (no_line s (length s.done) (omega arith)) ∙ nothing-kept (line_at s 0) (length s.done)

  all_counted : count (kept s) (many s) ≡ h.kept
  all_counted = go (eqb (length s.rest) 0)
    where
      go : (t : Bool) → count (kept s) (length s.done + pick t 0 1) ≡ h.kept
      go true = ap (count (kept s)) (omega arith) ∙ sym e.many
      go false = passes (kept s) (length s.done) last_lost ∙ sym e.many

  all_kept : kept_text (kept s) (line_at s) (many s) ≡ kept_text (kept s) (line_at s) (length s.done)
  all_kept = go (eqb (length s.rest) 0)
    where
      go : (t : Bool) → kept_text (kept s) (line_at s) (length s.done + pick t 0 1) ≡ kept_text (kept s) (line_at s) (length s.done)
      go true = ap (kept_text (kept s) (line_at s)) (omega arith)
      go false = kept_still (kept s) (line_at s) (length s.done) last_lost

  -- as many lines
  pub all_lines : lines_in h ≡ many s
  all_lines = go (dec_lt 0 (length s.rest))
    where
      go : Dec (0 < length s.rest) → lines_in h ≡ many s
      go (yes l) =
          let p : 0 < length (take most s.rest) = some-held s.rest l in
          rw (e.lines, ne_eqb h.long 0 (λ q. omega (arith, e.long)), ne_eqb (length s.rest) 0 (λ q. omega arith))
      go (no l) =
          let p : length (take most s.rest) ≡ 0 = none_held s.rest (omega arith) in
          rw (e.lines, eq-eqb h.long 0 (e.long ∙ p), eq-eqb (length s.rest) 0 (omega arith))

  none_same : is_first (line_at s 0) ≡ true → none_in h ≡ none_left s
  none_same f =
      let m : h.m ≡ (head_of (line_at s 0)).m = e.columns ∙ ap (λ (t : Bool). pick t (head_of (line_at s 0)).m 0) f in
      rw (m, all_counted)

  pub same_front : front_in h room ≡ front_text s
  unfolding front_in front_text
  same_front = go (is_first (line_at s 0)) refl
    where
      go : (t : Bool) → is_first (line_at s 0) ≡ t
          → pick h.good (pick (none_in h) (note_text bad_word 2) (corrected (take h.end room) h.kept)) (note_text bad_word 1)
          ≡ pick (is_first (line_at s 0)) (pick (none_left s) (note_text bad_word 2) (good_sheet s)) (note_text bad_word 1)
      go true f =
          let text : take h.end room ≡ line_at s 0 ++ kept_text (kept s) (line_at s) (length s.done) =
          e.text ∙ ap (λ (t : Bool). pick t (line_at s 0) [] ++ kept_text (kept s) (line_at s) (length s.done)) f in
          let good : corrected (take h.end room) h.kept ≡ good_sheet s =
          ap (λ (x : List ℕ). corrected x h.kept) text
          ∙ corrected-more (line_at s 0) (kept_text (kept s) (line_at s) (length s.done)) h.kept f
          ∙ ap (λ (k : ℕ). corrected (line_at s 0) k ++ kept_text (kept s) (line_at s) (length s.done)) (sym all_counted)
          ∙ ap (λ (x : List ℕ). corrected (line_at s 0) (count (kept s) (many s)) ++ x) (sym all_kept) in
          rw (e.good, f, none_same f, good)
      go false f = rw (e.good, f)

  pub same_judged : judged_in h ≡ judged s
  unfolding judged_in judged
  same_judged = go (is_first (line_at s 0)) refl
    where
      go : (t : Bool) → is_first (line_at s 0) ≡ t
          → pick h.good (pick (none_in h) 0 (lines_in h - 1)) 0 ≡ pick (is_first (line_at s 0)) (pick (none_left s) 0 (many s - 1)) 0
      go true f = rw (e.good, f, none_same f, all_lines)
      go false f = rw (e.good, f)

  pub first-stands : Opened h room
  first-stands = record { opened = λ g. go (sym e.good ∙ g) }
    where
      go : is_first (line_at s 0) ≡ true → (count_at (take h.end room) 5).next ≤ length (take h.end room)
      go f =
          let t : List ℕ = kept_text (kept s) (line_at s) (length s.done) in
          let text : take h.end room ≡ line_at s 0 ++ t = e.text ∙ ap (λ (b : Bool). pick b (line_at s 0) [] ++ t) f in
          let l : 5 + width_at (line_at s 0) 5 < length (line_at s 0) = count_inside (line_at s 0) f in
          let n : (count_at (take h.end room) 5).next ≡ (count_at (line_at s 0) 5).next =
          ap (λ (x : List ℕ). (count_at x 5).next) text ∙ ap (λ (f : Field). f.next) (count_longer (line_at s 0) t 5 l) in
          let w : length (take h.end room) ≡ length (line_at s 0) + length t = ap length text ∙ length-append (line_at s 0) t in
          omega (arith, n, w, count_inside (line_at s 0) f)

  -- a line is marked where it is kept
  pub same_kept : (j : ℕ) → kept_in h marks j ≡ kept s j
  same_kept j = go (dec_lt h.m j) (kept s j) refl
    where
      go : Dec (h.m < j) → (b : Bool) → kept s j ≡ b → kept_in h marks j ≡ b
      go (yes l) true p =
          let x = kept_is (line_at s 0) j (line_at s j) p in
          let m : h.m ≡ (head_of (line_at s 0)).m = e.columns ∙ ap (λ (t : Bool). pick t (head_of (line_at s 0)).m 0) x.good in
          absurd (omega (arith, x.among))
      go (yes l) false p = rw (lt-leb j h.m l)
      go (no l) b p =
          let q : get_or marks j 0 ≡ pick b 1 0 = e.marking j (omega (arith, (reach e).columns)) ∙ ap (λ (t : Bool). pick t 1 0) p in
          rw (le-leb j h.m (omega arith), q) (mark b)
        where
          mark : (t : Bool) → not (eqb (pick t 1 0) 0) ≡ t
          mark true = refl
          mark false = refl

  -- So what is held says the text that is written.
  pub held_is_salvaged : held_text h room marks ≡ salvaged s
  held_is_salvaged =
      ap (λ (x : List ℕ). x ++ lost_text (kept_in h marks) 1 (judged_in h)) same_front
      ∙ ap (λ (x : List ℕ). front_text s ++ x) (lost_same (kept_in h marks) (kept s) 1 (judged_in h) same_kept ∙ ap (lost_text (kept s) 1) same_judged)
