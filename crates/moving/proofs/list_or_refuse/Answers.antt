-- `moving::list_or_refuse` meets its contract: refused, or listed.
use mathlib.Core.Path.{◌≡◌}
use lib.ListN.{length}
use Rattle.std.proofs.Common.{rules}
use Rattle.refusal.specs.Refusals.{number_in}
use Rattle.movefaults.specs.Answers.{moved_fault}
use Rattle.moving.proofs.Listing.{given_in, refused, accepted_sizes, accepted}
use Rattle.moving.proofs.list_or_refuse.Goals as goal

pub returns-in_err-moved_fault : goal.returns-in_err-moved_fault
returns-in_err-moved_fault c =
    let a = c.args in
    let r = c.from_residual in
    let e : number_in r.result ≡ moved_fault a.matrix.now a.m a.n a.before.now a.after.now (length a.rows.now) (length a.changes.now) = search rules in
    refused _ _ _ _ _ _ _ _ e (given_in r.result r.ensures.0)

pub list_in_room-requires : goal.list_in_room-requires
list_in_room-requires c = accepted_sizes _ _ _ _ _ _ _ c.in_ok-moved_fault.ensures

pub returns : goal.returns
returns c = accepted _ _ _ _ _ _ _ c.in_ok-moved_fault.ensures _ _ c.list_in_room.ensures
