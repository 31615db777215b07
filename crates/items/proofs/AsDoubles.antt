-- A call for several items on bits is the call on the doubles that they stand for: where the bytes are as many as m and n say and no spare bit is set, both
-- have the same number, the same answers, the same output and the same scratch; and wherever the call on bits is accepted it is so. So what is proved of the
-- items of a call on doubles holds of it.
use Prim.Native.Nat.{ℕ, ◌*◌, ◌<◌}
use mathlib.Core.Path.{◌≡◌, sym, ◌∙◌}
use mathlib.Core.Bool.{true}
use mathlib.Core.List.{List}
use lib.Dec.{eqb}
use lib.ListN.{length}
use lib.Ieee.{Float}
use Rattle.seq.specs.Choice.{pick}
use Rattle.seq.specs.Lists.{repeated, part}
use Rattle.seq.specs.Sums.{plus_zero}
use Rattle.limits.specs.Votes.{bytes_of, spare_clear, expanded}
use Rattle.answers.specs.Answers.{Thinned}
use Rattle.demand.specs.Demand.{allows, Later}
use Rattle.demand.proofs.Monotone.{Double}
use Rattle.demand.proofs.DemandThree.{Doubles}
use Rattle.items.specs.Items.{Items, weights_at, source_at, rule_at}
use Rattle.items.specs.All.{ThinnedAll, BitsThinnedAll}
use Rattle.items.specs.declared.Answers.{Answers}
use Rattle.items.proofs.Testing.{calls_agree, taken}
use Rattle.items.proofs.Singles.{answer_for, item_single}
use Rattle.items.proofs.AmongItems.{items_demand_three}

module _ (bits : List ℕ) {m n items : ℕ} {list : Items} {output numbers : List Float} {indices : List ℕ}
    {r : Answers} {output' numbers' : List Float} {indices' : List ℕ} where
  pub as_doubles_all : length bits ≡ m * bytes_of n → spare_clear bits m n ≡ true
      → BitsThinnedAll bits m n items list output numbers indices r output' numbers' indices'
      → ThinnedAll (expanded bits m n) m n items list output numbers indices r output' numbers' indices'
  as_doubles_all area clear job =
      rw (calls_agree bits m n items list (length output) (length numbers) (length indices) area clear) at job

  -- and the other way
  pub from_doubles_all : length bits ≡ m * bytes_of n → spare_clear bits m n ≡ true
      → ThinnedAll (expanded bits m n) m n items list output numbers indices r output' numbers' indices'
      → BitsThinnedAll bits m n items list output numbers indices r output' numbers' indices'
  from_doubles_all area clear job =
      rw (calls_agree bits m n items list (length output) (length numbers) (length indices) area clear) job

  module _ (job : BitsThinnedAll bits m n items list output numbers indices r output' numbers' indices') (accepted : r.number ≡ 0) where
    -- a call that is accepted has as many bytes and no spare bit set
    pub accepted_all : ThinnedAll (expanded bits m n) m n items list output numbers indices r output' numbers' indices'
    accepted_all = let t = taken bits m n items list output numbers indices (sym job.number ∙ accepted) in as_doubles_all t.area t.clear job

    -- each item has what the single call is promised to leave
    pub bits_item_single : (k : ℕ) → k < items
        → Thinned (rule_at list k) (source_at list k) (expanded bits m n) m n (weights_at m list k) (part (k * m) m output) numbers indices
        (answer_for accepted_all accepted k) (part (k * m) m output')
        (pick (eqb (answer_for accepted_all accepted k).number 0) (repeated plus_zero (length numbers)) numbers)
        (pick (eqb (answer_for accepted_all accepted k).number 0) (repeated 0 (length indices)) indices)
    bits_item_single = item_single accepted_all accepted

    -- and demand 3 holds between the items
    pub bits_items_demand_three : (j k : ℕ) → j < items → k < items → weights_at m list j ≡ weights_at m list k → source_at list j ≡ source_at list k
        → Double (rule_at list j) → Double (rule_at list k) → Doubles (weights_at m list k) → allows (rule_at list j) (rule_at list k) ≡ true
        → (answer_for accepted_all accepted j).number ≡ 0 → (answer_for accepted_all accepted k).number ≡ 0
        → Later (expanded bits m n) n (weights_at m list k) (source_at list k) (rule_at list k) (answer_for accepted_all accepted j)
        (answer_for accepted_all accepted k) (part (j * m) m output') (part (k * m) m output')
    bits_items_demand_three = items_demand_three accepted_all accepted
