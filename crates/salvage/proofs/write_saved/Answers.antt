-- `write_saved`: the front, and behind it the lines of those that are lost.
use Rattle.std.proofs.Common.{arith}
use Rattle.gathering.proofs.Bytewise.{reach}
use Rattle.keeping.proofs.Fronts.{first-stands}
use Rattle.keeping.proofs.Answers.{judged-most}
use Rattle.salvage.proofs.Whole.{front_and_losses}
use Rattle.salvage.proofs.write_saved.Goals as goal

pub put_front-long-requires : goal.put_front-long-requires
put_front-long-requires g c =
    let e = c.requires.0.holds in
    let fit = reach e in
    (fit.ends, omega (arith, fit.room_left), omega arith, first-stands e)

pub write_losses-requires : goal.write_losses-requires
write_losses-requires g c =
    let e = c.requires.0.holds in
    ((reach e).columns, e.marked, omega (arith, c.judged_of-k.ensures, judged-most c.args.s, c.requires.1))

pub returns : goal.returns
returns g c =
    front_and_losses _ _ _ _ _ _ _ _ _ _ c.put_front-long.ensures c.judged_of-k.ensures c.in_ok-write_all.ensures.bytes c.in_ok-write_losses.ensures
