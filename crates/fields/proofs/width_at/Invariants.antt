-- `fields::width_at` meets its contract: the digits that are passed and those from there on are all of them.
use Rattle.fields.proofs.Turns.{Passing}
use Rattle.fields.proofs.width_at.Given as goal

abbrev pub invariant-loop-w : goal.invariant-loop-w
invariant-loop-w l = Passing l.text l.at l.w
