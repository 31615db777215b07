-- `chosen::next_live` meets its contract: every place before the first that is found adds nothing.
use borrow.Author.Tests.{tests}
use lib.Dec.{T}
use Rattle.std.proofs.Common.{rules}
use Rattle.std.proofs.lemmas.Iterator.{first_from_Range}
use Rattle.seq.specs.Sums.{at}
use Rattle.ieee.specs.Flat.{is_zero}
use lib.Ieee.Scale.{finite}
use Rattle.chosen.proofs.Skipping.{nothing_there, passed-first}
use Rattle.chosen.proofs.next_live.Goals as goal

pub returns-clause-passed : goal.returns-clause-passed
returns-clause-passed c =
    let g = c.args.g.now in
    let scale = c.args.scale.now in
    passed-first c.find.result
    (first_from_Range _ _ _ c.find.result (λ k. Unit {0}) (λ k. T (is_zero (at g k)) × T (finite (at scale k))) c.find.ensures.ran
    (λ x q k. tt) (λ x q k. search (rules, tests, nothing_there)))
