-- `sparsification::follow` meets its contract: the rule's case says which loop follows the stages.
use Rattle.stages.proofs.Halting.{target_some}
use Rattle.sparsification.proofs.follow.Goals as goal

pub to_target-requires : goal.to_target-requires
to_target-requires c =
    (c.requires.0, c.requires.1, c.requires.2, target_some _ (rw c.in-Target.is at c.requires.4))

pub to_allowance-requires : goal.to_allowance-requires
to_allowance-requires c =
    let given = c.requires in
    (given.0, given.1, given.2, given.3, rw c.in-Within.is at given.4)

pub returns-in-Target : goal.returns-in-Target
returns-in-Target c =
    rw c.in-Target.is c.to_target.ensures

pub returns-in-Within : goal.returns-in-Within
returns-in-Within c =
    rw c.in-Within.is c.to_allowance.ensures
