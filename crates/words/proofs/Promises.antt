-- What is promised of the answer with its words: it ends within its buffer and has at most 4094 bytes, it begins as the answer of `thin`, and a text
-- beyond the program's buffer changes nothing.
use borrow.Author.Tests.{ne_eqb, eqb-true, leb-true, le-leb}
use Prim.Native.Nat.{ℕ, ◌+◌, ◌≤◌, ◌<◌}
use mathlib.Core.Path.{◌≡◌, refl, sym, ap, ◌∙◌}
use mathlib.Core.Bool.{Bool, true, false}
use mathlib.Core.List.{List, [], ◌++◌, append-nil}
use native.Mathlib.Omega.{arith}
use lib.Dec.{eqb, leb}
use lib.ListN.{length, take, drop, length-append}
use lib.Seq.{take_at}
use lib.Ieee.{Float}
use Rattle.seq.specs.Choice.{pick}
use Rattle.seq.specs.Sums.{plus_zero}
use Rattle.weights.specs.Weights.{normalized}
use Rattle.fields.specs.Texts.{note_text}
use Rattle.fields.proofs.Widths.{width_most}
use Rattle.fields.proofs.Puts.{length_note}
use Rattle.answers.specs.Answers.{returned}
use Rattle.head.specs.declared.Head.{Head}
use Rattle.head.specs.FirstLine.{head_of}
use Rattle.form.specs.Form.{wrong_line}
use Rattle.form.specs.Reading.{weights_of, matrix_of}
use Rattle.form.proofs.LongText.{long_text_is_wrong, first_bytes_same_line}
use Rattle.keeping.specs.Saved.{Laid}
use Rattle.answering.specs.Words.{bad_word}
use Rattle.asking.specs.Jobs.{sheet_fault, job_text, source_of}
use Rattle.sheet.specs.Answer.{sheet_answer}
use Rattle.form.proofs.Lines.{sized_right}
use Rattle.sheet.proofs.Whole.{length_job}
use Rattle.wordlines.specs.Lines.{words_of}
use Rattle.words.specs.Words.{moved_text, moved_answer}
use Rattle.wordlines.proofs.Listing.{shorter, length_words}

-- a text that is laid in a buffer ends within it
pub stays_within : (t answer : List ℕ) (r : ℕ) (answer' : List ℕ) → Laid t answer r answer' → length answer' ≡ length answer → r ≤ length answer'
stays_within t answer r answer' a e = go (leb (length t) (length answer)) refl a.says
  where
    go : (s : Bool) → leb (length t) (length answer) ≡ s → r ≡ pick s (length t) 0 → r ≤ length answer'
    go true q f = omega (arith, leb-true (length t) (length answer) q, e)
    go false q f = omega arith

length_moved : (t : List ℕ) (h : Head) → h.m ≤ 32 → h.n ≤ 64
    → length (moved_text h.rule (source_of h) (matrix_of t h) h.m h.n (weights_of t h)) ≤ 4094
length_moved t h few short =
    let matrix : List Float = matrix_of t h in
    let w : List Float = weights_of t h in
    let after : List Float = (returned matrix h.n w (source_of h) h.rule).w in
    let words : List ℕ = words_of matrix h.m h.n (normalized plus_zero w) after in
    let accepted : Bool = eqb (sheet_fault h.rule matrix h.m h.n w) 0 in
    rw (length-append (job_text h.rule (source_of h) matrix h.m h.n w) (pick accepted words []))
    (omega (
      arith,
      length_job t h few,
      shorter accepted words 2752 (length_words matrix h.m h.n (normalized plus_zero w) after short),
    ))

-- every answer has at most 4094 bytes
pub answer_most : (t : List ℕ) → length (moved_answer t) ≤ 4094
unfolding moved_answer
answer_most t = go (eqb (wrong_line t) 0) refl
  where
    go : (s : Bool) → eqb (wrong_line t) 0 ≡ s
        → length (pick s (moved_text (head_of t).rule (source_of (head_of t)) (matrix_of t (head_of t)) (head_of t).m (head_of t).n
        (weights_of t (head_of t))) (note_text bad_word (wrong_line t))) ≤ 4094
    go true e =
        let sized = sized_right t (head_of t) refl (eqb-true (wrong_line t) 0 e) in
        length_moved t (head_of t) sized.columns sized.rows
    go false e = omega (arith, length_note bad_word (wrong_line t), width_most (wrong_line t))

-- so a buffer of 4094 bytes always gets the answer
pub always_fits : (t : List ℕ) {answer : List ℕ} {r : ℕ} {answer' : List ℕ} → 4094 ≤ length answer → Laid (moved_answer t) answer r answer'
    → (r ≡ length (moved_answer t)) × (take r answer' ≡ moved_answer t)
always_fits t {answer} {r} {answer'} h a =
    let f = le-leb (length (moved_answer t)) (length answer) (omega (arith, answer_most t)) in
    let l : r ≡ length (moved_answer t) = rw f at a.says in
    let w : answer' ≡ moved_answer t ++ drop (length (moved_answer t)) answer = rw f at a.writes in
    (l, ap (take r) w ∙ take_at (moved_answer t) (drop (length (moved_answer t)) answer) r (sym l))

-- it begins with the lines that `thin` writes
pub begins_as_thin : (t : List ℕ) → take (length (sheet_answer t)) (moved_answer t) ≡ sheet_answer t
unfolding moved_answer sheet_answer
begins_as_thin t = go (eqb (wrong_line t) 0) _ _ (note_text bad_word (wrong_line t))
  where
    go : (b : Bool) (x y z : List ℕ) → take (length (pick b x z)) (pick b (x ++ y) z) ≡ pick b x z
    go true x y z = take_at x y (length x) refl
    go false x y z = ap (take (length z)) (sym (append-nil z)) ∙ take_at z [] (length z) refl

-- a text with a wrong line
bad_text : (t : List ℕ) → 0 < wrong_line t → moved_answer t ≡ note_text bad_word (wrong_line t)
unfolding moved_answer
bad_text t h = rw (ne_eqb (wrong_line t) 0 (λ e. omega arith))

-- A text that is longer than a buffer of k bytes is answered as its first k bytes are, so that the program `moved` answers any text as a whole.
pub first_bytes_same_answer : (text : List ℕ) (k : ℕ) → 40000 < k → k ≤ length text → moved_answer (take k text) ≡ moved_answer text
first_bytes_same_answer text k h g =
    let e = first_bytes_same_line text k h g in
    let w : 0 < wrong_line text = long_text_is_wrong text (omega arith) in
    bad_text (take k text) (omega (arith, e)) ∙ ap (note_text bad_word) e ∙ sym (bad_text text w)
