-- `change::largest_from` meets its contract: the fold takes the rows in order.
use borrow.Author.Tests.{tests}
use mathlib.Core.Path.{◌∙◌}
use Rattle.std.proofs.Common.{rules}
use Rattle.std.proofs.lemmas.Iterator.{YieldsList-from_slice}
use Rattle.std.proofs.lemmas.Iterator.Consumers.{fold_from_yields_List}
use Rattle.ieee.specs.Magnitude.{abs_of, larger_of}
use Rattle.change.proofs.Largest.{largest_whole}
use Rattle.change.proofs.largest_from.Goals as goal

pub returns : goal.returns
returns c =
    let a = c.args in
    fold_from_yields_List _ (λ r x. larger_of r (abs_of x)) a.most c.fold.result c.fold.ensures.ran (YieldsList-from_slice a.block.now cc)
    (λ r x b q k. search (rules, tests))
    ∙ largest_whole a.most a.block.now
