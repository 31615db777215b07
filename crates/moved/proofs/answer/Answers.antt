-- `answer`: what was read decides the answer of the whole text.
use Rattle.std.proofs.Common.{rules}
use Rattle.words.proofs.Promises.{always_fits}
use Rattle.moved.proofs.Whole.{answers_all}
use Rattle.moved.proofs.answer.Goals as goal

pub returns : goal.returns
returns g c =
    answers_all _ _ _ c.read_full.new.buf c.in_ok-long.long _ (search rules) c.in_ok-long.ensures.front
    (always_fits _ (search rules) c.moved_sheet-end.ensures).1 c.in_ok-write_all.ensures.bytes
