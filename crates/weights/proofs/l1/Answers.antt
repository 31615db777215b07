-- `weights::l1` meets its contract: the sum over the elements is that over the indices.
use borrow.Author.Tests.{tests}
use mathlib.Core.Path.{◌∙◌}
use lib.Ieee.{add, binary64, nan}
use Rattle.std.proofs.Common.{rules}
use Rattle.std.proofs.lemmas.Iterator.{YieldsList-from_slice}
use Rattle.std.proofs.lemmas.Iterator.Consumers.{fold_from_yields_List}
use Rattle.seq.specs.Sums.{plus_zero}
use Rattle.ieee.specs.Magnitude.{abs_of}
use Rattle.weights.specs.Weights.{l1_of}
use Rattle.weights.proofs.Chains.{sum_whole}
use Rattle.weights.proofs.l1.Goals as goal

pub returns : goal.returns
unfolding l1_of
returns c =
    fold_from_yields_List _ (λ a x. add binary64 a (abs_of x)) plus_zero c.fold.result c.fold.ensures.ran (YieldsList-from_slice c.args.w.now cc) (λ a x b q k. search (rules, tests))
    ∙ sum_whole nan c.args.w.now binary64 plus_zero abs_of
