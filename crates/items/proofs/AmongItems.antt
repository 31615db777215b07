-- Demand 3 between the items of a call: of two accepted items with equal weights, seed and edition, of one kind, the second allowing at least as much, the
-- second's answer is the same or a later stage of the one sequence.
use Prim.Native.Nat.{ℕ, ◌*◌, ◌<◌}
use mathlib.Core.Path.{◌≡◌}
use mathlib.Core.Bool.{true}
use mathlib.Core.List.{List}
use lib.Ieee.{Float}
use Rattle.seq.specs.Lists.{part}
use Rattle.answers.specs.Answers.{Thinned}
use Rattle.demand.specs.Demand.{allows, Later}
use Rattle.demand.proofs.Monotone.{Double}
use Rattle.demand.proofs.DemandThree.{Doubles, demand_three}
use Rattle.items.specs.Items.{Items, weights_at, source_at, rule_at}
use Rattle.items.specs.All.{ThinnedAll}
use Rattle.items.specs.declared.Answers.{Answers}
use Rattle.items.proofs.Singles.{answer_for, item_single}

module _ {matrix : List Float} {m n items : ℕ} {list : Items} {output numbers : List Float} {indices : List ℕ}
    {r : Answers} {output' numbers' : List Float} {indices' : List ℕ}
    (job : ThinnedAll matrix m n items list output numbers indices r output' numbers' indices') (taken : r.number ≡ 0) where
  pub items_demand_three : (j k : ℕ) → j < items → k < items → weights_at m list j ≡ weights_at m list k → source_at list j ≡ source_at list k
      → Double (rule_at list j) → Double (rule_at list k) → Doubles (weights_at m list k) → allows (rule_at list j) (rule_at list k) ≡ true
      → (answer_for job taken j).number ≡ 0 → (answer_for job taken k).number ≡ 0
      → Later matrix n (weights_at m list k) (source_at list k) (rule_at list k) (answer_for job taken j) (answer_for job taken k)
      (part (j * m) m output') (part (k * m) m output')
  items_demand_three j k h g weights sources A B doubles more first second =
      demand_three (rw (weights, sources) at (item_single job taken j h)) (item_single job taken k g) A B doubles more first second
