-- `weights::count_nonzeros` meets its contract: the count over the elements is that over the indices.
use borrow.Author.Tests.{tests}
use mathlib.Core.Path.{◌∙◌}
use lib.Ieee.{ne, nan}
use Rattle.std.proofs.Common.{rules}
use Rattle.std.proofs.lemmas.Iterator.{YieldsList-from_slice}
use Rattle.std.proofs.lemmas.Iterator.Consumers.{YieldsList-from_filter, count_from_yields_List}
use Rattle.seq.specs.Sums.{plus_zero}
use Rattle.weights.proofs.Chains.{count_whole}
use Rattle.weights.proofs.count_nonzeros.Goals as goal

pub returns : goal.returns
returns c =
    count_from_yields_List c.filter.result c.count.result c.count.ensures.ran
    (YieldsList-from_filter _ (λ x. ne x plus_zero) (YieldsList-from_slice c.args.w.now cc) c.filter.ensures.closure (λ x r q k. search (rules, tests)))
    ∙ count_whole nan c.args.w.now (λ x. ne x plus_zero)
