-- `words::moved_sheet` meets its contract: an answer that fits is copied to the front, and one that does not is left.
use lib.Seq.{length-take-le}
use Rattle.sheet.proofs.Whole.{wrote_room}
use Rattle.words.specs.Words.{moved_answer}
use Rattle.words.proofs.Whole.{does_not_fit, does_fit}
use Prim.Native.Nat.{◌-◌}
use mathlib.Core.Path.{refl, sym, ◌∙◌}
use Rattle.words.proofs.moved_sheet.Goals as goal

pub returns-then-answer-long : goal.returns-then-answer-long
returns-then-answer-long c =
    does_not_fit (moved_answer c.args.text.now) c.args.answer.now _ c.answer_text-long.result
    c.answer_text-long.new.out c.answer_text-long.ensures c.if-answer-long.true

pub slice_bounds-copy_bytes-end-2 : goal.slice_bounds-copy_bytes-end-2
slice_bounds-copy_bytes-end-2 c = sym (length-take-le _ _ c.if-answer-long.false)

pub slice_bounds-out-end : goal.slice_bounds-out-end
slice_bounds-out-end c = wrote_room _ _ _ _ c.answer_text-long.ensures

pub slice_bounds-copy_bytes-end-3 : goal.slice_bounds-copy_bytes-end-3
slice_bounds-copy_bytes-end-3 c = sym (length-take-le _ _ (wrote_room _ _ _ _ c.answer_text-long.ensures))

pub copy_bytes-requires : goal.copy_bytes-requires
copy_bytes-requires c = length-take-le _ _ c.if-answer-long.false ∙ sym
    (length-take-le _ _ (wrote_room _ _ _ _ c.answer_text-long.ensures))

pub returns : goal.returns
returns c =
    does_fit (moved_answer c.args.text.now) c.args.answer.now _ c.answer_text-long.result
    c.answer_text-long.new.out c.copy_bytes.new.a _ c.answer_text-long.ensures
    c.if-answer-long.false c.copy_bytes.ensures refl
