-- `words::answer_text` meets its contract: a wrong line is named, and a sheet with none has the sizes that its job asks for.
use Rattle.sheet.proofs.Whole.{sheet_asks, answered_bad, answered_good}
use Rattle.fields.proofs.Widths.{width_most}
use Prim.Native.Nat.{ℕ}
use mathlib.Core.List.{List}
use native.Mathlib.Omega.{arith}
use Rattle.head.specs.declared.Head.{Head}
use Rattle.form.specs.Reading.{weights_of, matrix_of}
use Rattle.asking.specs.Jobs.{source_of}
use Rattle.words.specs.Words.{moved_text, moved_answer}
use Rattle.words.proofs.answer_text.Goals as goal

-- what a sheet of the form is answered with
abbrev goodText : List ℕ → Head → List ℕ
goodText t h = moved_text h.rule (source_of h) (matrix_of t h) h.m h.n (weights_of t h)

pub put_note-requires : goal.put_note-requires
put_note-requires c = omega (arith, width_most c.in-Err.line)

pub returns-in-Err : goal.returns-in-Err
unfolding moved_answer
returns-in-Err c =
    answered_bad (goodText c.args.text.now) c.args.text.now c.in-Err.line c.in-Err.ensures.0 c.in-Err.ensures.1
    c.put_note.ensures (omega (arith, c.requires))

pub answer_sheet-requires : goal.answer_sheet-requires
answer_sheet-requires c = sheet_asks c.args.text.now c.in-Ok.head c.in-Ok.ensures.0 c.in-Ok.ensures.1 c.requires

pub returns-in-Ok : goal.returns-in-Ok
unfolding moved_answer
returns-in-Ok c =
    answered_good (goodText c.args.text.now) c.args.text.now c.in-Ok.head c.in-Ok.ensures.0 c.in-Ok.ensures.1 c.answer_sheet.ensures
