-- `salvaging::put_lost` meets its contract: by whether the line is kept.
use Rattle.keeping.proofs.Losses.{lost_length, kept_wrote, lost_wrote}
use native.Mathlib.Omega.{arith}
use Rattle.salvaging.proofs.put_lost.Goals as goal

pub returns-then-kept : goal.returns-then-kept
returns-then-kept c = kept_wrote _ _ _ _ c.if-kept.true

pub put_note-requires : goal.put_note-requires
put_note-requires c =
    omega (arith, lost_length c.args.kept c.args.number c.if-kept.false, c.requires)

pub returns : goal.returns
returns c =
    lost_wrote c.args.kept c.args.number c.if-kept.false c.put_note.ensures
