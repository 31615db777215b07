-- The text that answers a sheet, and the answer in a lent buffer.
use Rattle.std.specs.Prelude.{ℕ, ◌≡◌, List, ◌++◌, eqb, leb, length, drop}
use Rattle.seq.specs.Choice.{pick}
use Rattle.fields.specs.Texts.{note_text}
use Rattle.head.specs.FirstLine.{head_of}
use Rattle.form.specs.Form.{wrong_line}
use Rattle.form.specs.Reading.{weights_of, matrix_of}
use Rattle.answering.specs.Words.{bad_word}
use Rattle.asking.specs.Jobs.{job_text, source_of}

-- the text that answers a sheet
unfoldable pub sheet_answer : List ℕ → List ℕ
sheet_answer text =
    pick (eqb (wrong_line text) 0)
    (job_text (head_of text).rule (source_of (head_of text)) (matrix_of text (head_of text)) (head_of text).m
    (head_of text).n (weights_of text (head_of text)))
    (note_text bad_word (wrong_line text))

-- the answer of a sheet in a lent buffer: the rest of the buffer is left alone, and all of it where the answer does not fit, for which
-- 0 is said
pub record Answered (text : List ℕ) (answer : List ℕ) (r : ℕ) (answer' : List ℕ) : Type 0 where
  pub says : r ≡ pick (leb (length (sheet_answer text)) (length answer)) (length (sheet_answer text)) 0
  pub writes : answer' ≡ pick (leb (length (sheet_answer text)) (length answer))
      (sheet_answer text ++ drop (length (sheet_answer text)) answer) answer
