-- `votes::signed_pairs` meets its contract: the eight are written out.
use Rattle.votes.proofs.Rows.{pairs_are}
use Rattle.votes.proofs.signed_pairs.Goals as goal

pub returns : goal.returns
returns c = pairs_are c.args.t
