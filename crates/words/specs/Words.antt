-- The text that answers a sheet with the words that moved.
use Rattle.std.specs.Prelude.{ℕ, List, [], ◌++◌, eqb, Float}
use Rattle.seq.specs.Choice.{pick}
use Rattle.seq.specs.Sums.{plus_zero}
use Rattle.draw.specs.declared.SplitMix64.{SplitMix64}
use Rattle.fields.specs.Texts.{note_text}
use Rattle.weights.specs.Weights.{normalized}
use Rattle.rules.specs.declared.Rule.{Rule}
use Rattle.answers.specs.Answers.{returned}
use Rattle.head.specs.FirstLine.{head_of}
use Rattle.form.specs.Form.{wrong_line}
use Rattle.form.specs.Reading.{weights_of, matrix_of}
use Rattle.answering.specs.Words.{bad_word}
use Rattle.asking.specs.Jobs.{sheet_fault, job_text, source_of}
use Rattle.wordlines.specs.Lines.{words_of}

-- the text that answers a job: that of `thin`, and where the job is accepted the words that moved from the normalized weights to those
-- returned
abbrev pub moved_text : Rule → SplitMix64 → List Float → ℕ → ℕ → List Float → List ℕ
moved_text rule source matrix m n w =
    job_text rule source matrix m n w
    ++ pick (eqb (sheet_fault rule matrix m n w) 0) (words_of matrix m n (normalized plus_zero w) (returned matrix n w source rule).w) []

-- the text that answers a sheet
unfoldable pub moved_answer : List ℕ → List ℕ
moved_answer text =
    pick (eqb (wrong_line text) 0)
    (moved_text (head_of text).rule (source_of (head_of text)) (matrix_of text (head_of text)) (head_of text).m
    (head_of text).n (weights_of text (head_of text)))
    (note_text bad_word (wrong_line text))
