-- `salvaging::answer_held` meets its contract: the front or the lines of the lost do not fit, or both are written, one behind the other.
use borrow.Author.Tests.{leb-true}
use lib.ListN.{length}
use lib.Seq.{length-take-le}
use Rattle.keeping.specs.Saved.{lost_text}
use Rattle.keeping.specs.Steps.{kept_in, front_in, judged_in}
use Rattle.gathering.proofs.Bytewise.{reach}
use Rattle.keeping.proofs.Fronts.{first-stands}
use Rattle.keeping.proofs.Answers.{front_room, judged-most, front_too_long, losses_too_long, copied_long, all_laid}
use Prim.Native.Nat.{◌-◌}
use mathlib.Core.Path.{sym, ◌∙◌}
use mathlib.Core.List.{[]}
use native.Mathlib.Omega.{arith}
use Rattle.salvaging.proofs.answer_held.Goals as goal

pub put_front-long-requires : goal.put_front-long-requires
put_front-long-requires c =
    let e = c.requires.0.holds in
    let fit = reach e in
    (fit.ends, omega (arith, fit.room_left), omega arith, first-stands e)

pub returns-then-answer-long : goal.returns-then-answer-long
returns-then-answer-long c =
    front_too_long _ (lost_text (kept_in c.args.s c.args.marks.now) 1 (judged_in c.args.s)) _ _ _ _
    c.put_front-long.ensures c.if-answer-long.true

pub losses_fit-requires : goal.losses_fit-requires
losses_fit-requires c =
    let e = c.requires.0.holds in
    ((reach e).columns, e.marked, omega (arith, c.judged_of-k.ensures, judged-most c.args.s, c.requires.1))

pub returns-then-not-losses_fit : goal.returns-then-not-losses_fit
returns-then-not-losses_fit c =
    losses_too_long _ (lost_text (kept_in c.args.s c.args.marks.now) 1 (judged_in c.args.s)) _ _ _
    _ c.put_front-long.ensures c.if-answer-long.false
    (rw c.judged_of-k.ensures at (sym c.losses_fit.ensures ∙ c.if-not-losses_fit.true))

pub slice_bounds-copy_bytes-end-2 : goal.slice_bounds-copy_bytes-end-2
slice_bounds-copy_bytes-end-2 c = sym (length-take-le _ _ c.if-answer-long.false)

pub slice_bounds-out-end : goal.slice_bounds-out-end
slice_bounds-out-end c = front_room _ _ _ _ c.put_front-long.ensures

pub slice_bounds-copy_bytes-end-3 : goal.slice_bounds-copy_bytes-end-3
slice_bounds-copy_bytes-end-3 c = sym (length-take-le _ _ (front_room _ _ _ _ c.put_front-long.ensures))

pub copy_bytes-requires : goal.copy_bytes-requires
copy_bytes-requires c =
    length-take-le _ _ c.if-answer-long.false
    ∙ sym (length-take-le _ _ (front_room _ _ _ _ c.put_front-long.ensures))

pub put_losses-requires : goal.put_losses-requires
put_losses-requires c =
    let e = c.requires.0.holds in
    let fits = leb-true (length (lost_text (kept_in c.args.s c.args.marks.now) 1 c.judged_of-k.result))
    (length c.args.answer.now - c.put_front-long.result) (sym c.losses_fit.ensures ∙ c.if-not-losses_fit.false) in
    let long = copied_long (front_in c.args.s c.args.room.now) [] c.args.answer.now _ _ _
    c.put_front-long.ensures c.copy_bytes.new.a c.if-answer-long.false
    c.copy_bytes.ensures in
    record {
      room = omega (arith, long, fits, c.if-answer-long.false);
      columns = (reach e).columns;
      marked = e.marked;
      numbered = omega (arith, c.judged_of-k.ensures, judged-most c.args.s, c.requires.1);
    }

pub returns : goal.returns
returns c =
    all_laid _ (lost_text (kept_in c.args.s c.args.marks.now) 1 (judged_in c.args.s)) _ _ _ _ c.put_front-long.ensures
    c.copy_bytes.new.a _ _ c.if-answer-long.false
    (rw c.judged_of-k.ensures at (sym c.losses_fit.ensures ∙ c.if-not-losses_fit.false))
    c.copy_bytes.ensures (rw c.judged_of-k.ensures at c.put_losses.ensures)
