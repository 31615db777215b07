-- `fields::number` meets its contract: after k turns v is what k digits say, and fewer than sixteen leave room for one more.
use Rattle.fields.specs.Digits.{number_at}
use mathlib.Core.Path.{◌≡◌}
use Rattle.fields.proofs.number.Given as goal

abbrev pub invariant-loop-k : goal.invariant-loop-k
invariant-loop-k l = l.v ≡ number_at l.base l.text l.at l.k
