-- `doubling::sigma_of` meets its contract: the colours above 0 are counted over the elements as over the indices.
use borrow.Author.Tests.{le-leb, lt-leb, tests}
use Prim.Native.Nat.{◌*◌}
use mathlib.Core.Path.{◌≡◌, refl, ◌∙◌}
use lib.Ieee.{nan, neg, of_bits, lt}
use lib.ListN.{length}
use Rattle.std.proofs.Common.{rules}
use Rattle.std.proofs.lemmas.Iterator.{YieldsList-from_slice}
use Rattle.std.proofs.lemmas.Iterator.Consumers.{YieldsList-from_filter, count_from_yields_List}
use Rattle.seq.specs.Sums.{plus_zero, at}
use Rattle.seq.specs.Keep.{count}
use Rattle.weights.proofs.Chains.{count_whole}
use Rattle.doubling.proofs.sigma_of.Goals as goal
use Rattle.doubling.proofs.sigma_of.Goals.{After-count-plus}

counted : (c : After-count-plus) → c.count-plus.result ≡ count (λ p. lt plus_zero (at c.args.x.now p)) (length c.args.x.now)
counted c =
    count_from_yields_List c.filter.result c.count-plus.result c.count-plus.ensures.ran
    (YieldsList-from_filter _ (lt plus_zero) (YieldsList-from_slice c.args.x.now cc) c.filter.ensures.closure (λ y r q k. search (rules, tests)))
    ∙ count_whole nan c.args.x.now (lt plus_zero)

pub returns-then-plus-x : goal.returns-then-plus-x
returns-then-plus-x c =
    rw (← counted (goal.at.returns-then-plus-x c).After-count-plus, le-leb (2 * c.count-plus.result) (length c.args.x.now) c.if-plus-x.true)

pub returns-else-plus-x : goal.returns-else-plus-x
unfolding neg of_bits
returns-else-plus-x c =
    rw (← counted (goal.at.returns-else-plus-x c).After-count-plus, lt-leb (2 * c.count-plus.result) (length c.args.x.now) c.if-plus-x.false) refl
