-- `answering::put_answer` meets its contract: a note for a refusal, and else the first line and the weights'.
use Rattle.answering.proofs.Lines.{length_ok, answer_refused, answer_accepted}
use Rattle.fields.proofs.Widths.{width_most}
use Prim.Native.Nat.{◌-◌}
use native.Mathlib.Omega.{arith}
use Rattle.answering.proofs.put_answer.Goals as goal

pub put_note-requires : goal.put_note-requires
put_note-requires c = omega (arith, width_most c.args.r.number)

pub returns-then-r-ne0 : goal.returns-then-r-ne0
returns-then-r-ne0 c =
    answer_refused c.args.r c.args.w.now c.args.out.now c.put_note.result
    c.put_note.new.out c.if-r-ne0.true (omega (arith, c.requires)) c.put_note.ensures

pub put_weights-requires : goal.put_weights-requires
put_weights-requires c =
    omega (arith, length_ok c.args.r, c.put_ok-end.ensures.long, c.put_ok-end.auto.out, c.requires)

pub returns : goal.returns
returns c =
    answer_accepted c.args.r c.args.w.now c.args.out.now c.put_ok-end.result
    c.put_ok-end.new.out c.put_weights.result c.put_weights.new.out
    c.if-r-ne0.false c.requires (omega (arith, length_ok c.args.r, c.put_ok-end.ensures.long))
    c.put_ok-end.ensures c.put_weights.ensures
