-- The answer of a whole sheet: what is read from it, its answer in the buffer of the program and in the caller's, that no second answer fits, and how
-- long an answer can be.
use borrow.Author.Tests.{eq-eqb, ne_eqb, eqb-true, leb-true, le-leb, lt-leb}
use Prim.Native.Nat.{ℕ, suc, ◌+◌, ◌≤◌, ◌<◌}
use mathlib.Core.Path.{◌≡◌, refl, sym, ap, ◌∙◌}
use mathlib.Core.Bool.{Bool, true, false}
use mathlib.Core.List.{List, ◌++◌}
use native.Mathlib.Omega.{arith}
use lib.Dec.{eqb, leb}
use lib.ListN.{length, take, drop, length-take}
use lib.Seq.{take_at}
use lib.Ieee.{Float}
use Rattle.seq.specs.Choice.{pick}
use Rattle.seq.specs.Sums.{plus_zero}
use Rattle.seq.proofs.Filling.{length-tab}
use Rattle.fields.proofs.Widths.{width_most}
use Rattle.fields.proofs.Puts.{length_note}
use Rattle.limits.specs.Matrix.{columns_of}
use Rattle.weights.specs.Weights.{normalized}
use Rattle.rules.specs.declared.Rule.{Rule}
use Rattle.answers.specs.Answers.{returned, stop_for}
use Rattle.stages.proofs.Lengths.{length-normalized, length-stage}
use Rattle.head.specs.declared.Head.{Head}
use Rattle.head.specs.declared.EditionField.{EditionField}
use Rattle.head.specs.Words.{second_edition}
use Rattle.fields.specs.Bytes.{spelled}
use Rattle.faults.specs.Faults.{edition_fault}
use Rattle.head.specs.FirstLine.{sizes_at, rule_at, edition_at, head_of}
use Rattle.form.specs.Form.{wrong_line}
use Rattle.form.specs.Reading.{double_at, weight_place, weights_of, matrix_of}
use Rattle.form.proofs.Lines.{sized_right}
use Rattle.form.proofs.LongText.{long_text_is_wrong, first_bytes_same_line}
use Rattle.fields.specs.Texts.{note_text}
use Rattle.fields.specs.Steps.{WroteOn}
use Rattle.answering.specs.Words.{bad_word}
use Rattle.asking.specs.Jobs.{job_answer, job_text, source_of}
use Rattle.sheet.specs.Answer.{sheet_answer, Answered}
use Rattle.answering.specs.Steps.{Wrote}
use Rattle.answering.proofs.Puts.{front_of}
use Rattle.answering.proofs.Lines.{length_answer}
use Rattle.draw.specs.declared.SplitMix64.{SplitMix64}

-- the edition that a first line names is known
pub edition_known : (t : List ℕ) → edition_fault (head_of t).edition ≡ 0
unfolding head_of edition_at
edition_known t =
    let i : ℕ = (rule_at t ((sizes_at t 5).next + 17)).next in
    picked (spelled second_edition t i) (record { edition = 2; next = i + 3 }) (record { edition = 1; next = suc i }) refl refl
  where
    picked : (b : Bool) (x y : EditionField) → edition_fault x.edition ≡ 0 → edition_fault y.edition ≡ 0
        → edition_fault (pick b x y).edition ≡ 0
    picked true x y p q = p
    picked false x y p q = q

-- what a sheet of the form asks for, with what else is known of the buffer
pub sheet_asks : {Room : Type 0} (t : List ℕ) (h : Head) → h ≡ head_of t → wrong_line t ≡ 0 → Room
    → (h.m ≤ 32) × (h.n ≤ 64) × (h.next ≤ 1000) × Room × (edition_fault h.edition ≡ 0)
sheet_asks t h g z room =
    let s = sized_right t h g z in
    (s.columns, s.rows, omega (arith, s.starts), room, rw g (edition_known t))

-- a sheet with a wrong line and one of the form, whatever one of the form is answered with
module _ (good : Head → List ℕ) (t : List ℕ) {out : List ℕ} {r : ℕ} {out' : List ℕ} where
  pub answered_bad : (line : ℕ) → line ≡ wrong_line t → 0 < line → WroteOn (note_text bad_word line) 0 out r out' → 1342 ≤ length out
      → Wrote (pick (eqb (wrong_line t) 0) (good (head_of t)) (note_text bad_word (wrong_line t))) out r out'
  answered_bad line e h g room =
      rw (← e, ne_eqb line 0 (λ z. omega arith)) (front_of g (omega (arith, length_note bad_word line, width_most line)))

  pub answered_good : (h : Head) → h ≡ head_of t → wrong_line t ≡ 0 → Wrote (good h) out r out'
      → Wrote (pick (eqb (wrong_line t) 0) (good (head_of t)) (note_text bad_word (wrong_line t))) out r out'
  answered_good h g z w = rw (eq-eqb (wrong_line t) 0 z) (rw g at w)

-- the text ends within the buffer
pub wrote_room : (t out : List ℕ) (r : ℕ) (out' : List ℕ) → Wrote t out r out' → r ≤ length out'
wrote_room t out r out' w = omega (arith, w.long, ap length w.front, length-take r out')

-- an answer that does not fit, and one that does
pub does_not_fit : (t answer out : List ℕ) (r : ℕ) (out' : List ℕ) → Wrote (sheet_answer t) out r out' → length answer < r → Answered t answer 0 answer
does_not_fit t answer out r out' w h =
    let f = lt-leb (length (sheet_answer t)) (length answer) (omega (arith, w.long)) in
    record { says = rw f; writes = rw f }

pub does_fit : (t answer out : List ℕ) (r : ℕ) (out' ys answer' : List ℕ) → Wrote (sheet_answer t) out r out' → r ≤ length answer → ys ≡ take r out'
    → answer' ≡ ys ++ drop r answer → Answered t answer r answer'
does_fit t answer out r out' ys answer' w h e g =
    let f = le-leb (length (sheet_answer t)) (length answer) (omega (arith, w.long)) in
    let l : length (sheet_answer t) ≡ r = sym w.long in
    record { says = rw (f, l); writes = rw (f, l) (g ∙ ap (λ (s : List ℕ). s ++ drop r answer) (e ∙ w.front)) }

-- no second answer fits
pub sole_answer : {t answer : List ℕ} {r s : ℕ} {one two : List ℕ} → Answered t answer r one → Answered t answer s two → (r ≡ s) × (one ≡ two)
sole_answer p q = (p.says ∙ sym q.says, p.writes ∙ sym q.writes)

length-returned : (matrix : List Float) (n : ℕ) (w : List Float) (source : SplitMix64) (rule : Rule) → length (returned matrix n w source rule).w ≡ length w
length-returned matrix n w source rule =
    length-stage plus_zero (columns_of matrix n) n (normalized plus_zero w) source (stop_for matrix n w source rule) ∙ length-normalized plus_zero w

pub length_job : (t : List ℕ) (h : Head) → h.m ≤ 32 → length (job_text h.rule (source_of h) (matrix_of t h) h.m h.n (weights_of t h)) ≤ 1342
length_job t h g =
    length_answer (job_answer h.rule (source_of h) (matrix_of t h) h.m h.n (weights_of t h))
    (returned (matrix_of t h) h.n (weights_of t h) (source_of h) h.rule).w
    (omega (
      arith,
      length-returned (matrix_of t h) h.n (weights_of t h) (source_of h) h.rule,
      length-tab (λ j. double_at t (weight_place h.next h.n j)) h.m,
    ))

-- every answer has at most 1342 bytes
pub answer_most : (t : List ℕ) → length (sheet_answer t) ≤ 1342
unfolding sheet_answer
answer_most t = go (eqb (wrong_line t) 0) refl
  where
    go : (s : Bool) → eqb (wrong_line t) 0 ≡ s
        → length (pick s (job_text (head_of t).rule (source_of (head_of t)) (matrix_of t (head_of t)) (head_of t).m (head_of t).n
        (weights_of t (head_of t))) (note_text bad_word (wrong_line t))) ≤ 1342
    go true e = length_job t (head_of t) (sized_right t (head_of t) refl (eqb-true (wrong_line t) 0 e)).columns
    go false e = omega (arith, length_note bad_word (wrong_line t), width_most (wrong_line t))

-- so a buffer of 1342 bytes always gets the answer
pub always_fits : {t answer : List ℕ} {r : ℕ} {answer' : List ℕ} → 1342 ≤ length answer → Answered t answer r answer' → (r ≡ length (sheet_answer t))
    × (take r answer' ≡ sheet_answer t)
always_fits {t} {answer} {r} {answer'} h a =
    let f = le-leb (length (sheet_answer t)) (length answer) (omega (arith, answer_most t)) in
    let l : r ≡ length (sheet_answer t) = rw f at a.says in
    let w : answer' ≡ sheet_answer t ++ drop (length (sheet_answer t)) answer = rw f at a.writes in
    (l, ap (take r) w ∙ take_at (sheet_answer t) (drop (length (sheet_answer t)) answer) r (sym l))

-- the answer ends within the buffer
pub ends_within : (t answer : List ℕ) (r : ℕ) (answer' : List ℕ) → Answered t answer r answer' → r ≤ length answer
ends_within t answer r answer' a = go (leb (length (sheet_answer t)) (length answer)) refl a.says
  where
    go : (s : Bool) → leb (length (sheet_answer t)) (length answer) ≡ s → r ≡ pick s (length (sheet_answer t)) 0 → r ≤ length answer
    go true e f = omega (arith, leb-true (length (sheet_answer t)) (length answer) e)
    go false e f = omega arith

pub stays_within : (t answer : List ℕ) (r : ℕ) (answer' : List ℕ) → Answered t answer r answer' → length answer' ≡ length answer → r ≤ length answer'
stays_within t answer r answer' a e = omega (arith, ends_within t answer r answer' a)

-- a text with a wrong line
bad_text : (t : List ℕ) → 0 < wrong_line t → sheet_answer t ≡ note_text bad_word (wrong_line t)
unfolding sheet_answer
bad_text t h = rw (ne_eqb (wrong_line t) 0 (λ e. omega arith))

-- A text that is longer than a buffer of k bytes is answered as its first k bytes are, so that the program `thin` answers any text as a whole.
pub first_bytes_same_answer : (text : List ℕ) (k : ℕ) → 40000 < k → k ≤ length text → sheet_answer (take k text) ≡ sheet_answer text
first_bytes_same_answer text k h g =
    let e = first_bytes_same_line text k h g in
    let w : 0 < wrong_line text = long_text_is_wrong text (omega arith) in
    bad_text (take k text) (omega (arith, e)) ∙ ap (note_text bad_word) e ∙ sym (bad_text text w)
