-- `turned::count_turned` meets its contract: the filter keeps the rows that turn.
use borrow.Author.Tests.{tests}
use mathlib.Core.Bool.{not, beq}
use Prim.Native.Nat.{◌-◌}
use mathlib.Core.Path.{◌≡◌, ◌∙◌}
use native.Mathlib.Omega.{arith}
use lib.Ieee.{lt}
use lib.ListN.{length}
use Rattle.std.proofs.Common.{rules}
use Rattle.std.proofs.lemmas.Iterator.{YieldsList-from_range}
use Rattle.std.proofs.lemmas.Iterator.Consumers.{YieldsList-from_filter, count_from_yields_List}
use Rattle.seq.specs.Sums.{at}
use Rattle.turned.proofs.Counting.{turned_rows}
use Rattle.turned.proofs.count_turned.Goals as goal

pub returns : goal.returns
returns c =
    let before = c.args.before.now in
    let after = c.args.after.now in
    let thresholds = c.args.thresholds.now in
    let all : length before - 0 ≡ length before = omega arith in
    count_from_yields_List c.filter.result c.count.result c.count.ensures.ran
    (YieldsList-from_filter _ (λ i. not (beq (lt (at thresholds i) (at before i)) (lt (at thresholds i) (at after i))))
    (YieldsList-from_range 0 (length before) (length before) c.filter.ensures.source all) c.filter.ensures.closure
    (λ x r q k. search (rules, tests)))
    ∙ turned_rows thresholds before after (length before)
