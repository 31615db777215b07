-- `quadruples::signed_quads` meets its contract: the sixty-four are written out.
use Rattle.votes.proofs.Rows.{quads_are}
use Rattle.quadruples.proofs.signed_quads.Goals as goal

pub returns : goal.returns
returns c = quads_are c.args.t
