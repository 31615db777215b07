-- `linear::dot` meets its contract: the fold over both slices is the sum over their indices.
use mathlib.Core.Path.{◌∙◌}
use lib.Ieee.{binary64, nan, add, mul}
use Rattle.std.proofs.Common.{rules}
use Rattle.std.proofs.lemmas.Iterator.{YieldsList-from_slice, YieldsList-from_zip}
use Rattle.std.proofs.lemmas.Iterator.Consumers.{fold_from_yields_List}
use borrow.Author.Tests.{tests}
use Rattle.seq.specs.Sums.{plus_zero}
use Rattle.seq.proofs.Summing.{sum_zip}
use Rattle.linear.specs.Vectors.{dot_of}
use Rattle.linear.proofs.dot.Goals as goal

pub returns : goal.returns
unfolding dot_of
returns c =
    fold_from_yields_List _ (λ s p. add binary64 s (mul binary64 p.0 p.1)) plus_zero c.fold.result c.fold.ensures.ran
    (YieldsList-from_zip (YieldsList-from_slice c.args.a.now cc) (YieldsList-from_slice c.args.b.now cc))
    (λ s p b q k. search (rules, tests))
    ∙ sum_zip nan nan c.args.a.now c.args.b.now binary64 plus_zero (mul binary64) c.requires
