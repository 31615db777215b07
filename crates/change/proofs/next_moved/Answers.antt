-- `change::next_moved` meets its contract: before the place that is found the weights do not differ.
use borrow.Author.Tests.{tests}
use mathlib.Core.Bool.{false}
use mathlib.Core.Path.{◌≡◌}
use lib.Ieee.{binary64, sub, ne}
use Rattle.std.proofs.Common.{rules}
use Rattle.std.proofs.lemmas.Iterator.{first_from_Range}
use Rattle.seq.specs.Sums.{plus_zero, at}
use Rattle.change.proofs.ChangeMore.{unmoved-first}
use Rattle.change.proofs.next_moved.Goals as goal

pub returns-clause-same : goal.returns-clause-same
returns-clause-same c =
    let before = c.args.before.now in
    let after = c.args.after.now in
    unmoved-first c.find.result
    (first_from_Range _ _ _ c.find.result (λ k. Unit {0}) (λ k. ne (sub binary64 (at before k) (at after k)) plus_zero ≡ false) c.find.ensures.ran
    (λ x q k. tt) (λ x q k. search (rules, tests)))
