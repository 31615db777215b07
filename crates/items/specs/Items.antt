-- The items of a call: for each its weights and its job, and what the single call answers for it and leaves in its part of the output.
use Rattle.std.specs.Prelude.{ℕ, ◌*◌, List, eqb, get_or, Float}
use Rattle.seq.specs.Choice.{pick}
use Rattle.seq.specs.Lists.{part}
use Rattle.seq.specs.Sums.{at}
use Rattle.draw.specs.SplitMix.{seeded}
use Rattle.draw.specs.declared.SplitMix64.{SplitMix64}
use Rattle.rules.specs.declared.Rule.{Rule}
use Rattle.faults.specs.Faults.{rule_named, job_fault}
use Rattle.answers.specs.Answers.{refusal, answer_of, returned}
use Rattle.answers.specs.declared.Answer.{Answer}

-- The lists that a call is handed: weights item after item, and of each job its seed, its edition, the number of its
-- rule, its allowance and its limit.
pub record Items : Type 0 where
  pub weights : List Float
  pub seeds : List ℕ
  pub editions : List ℕ
  pub rules : List ℕ
  pub allowances : List Float
  pub limits : List ℕ

-- these lists, as one
abbrev pub listed : List Float → List ℕ → List ℕ → List ℕ → List Float → List ℕ → Items
listed weights seeds editions rules allowances limits =
    record { weights = weights; seeds = seeds; editions = editions; rules = rules; allowances = allowances; limits = limits }

-- item k's weights, m of them; its generator, of its seed and its edition; and its rule
abbrev pub weights_at : ℕ → Items → ℕ → List Float
weights_at m list k = part (k * m) m list.weights

abbrev pub source_at : Items → ℕ → SplitMix64
source_at list k = seeded (get_or list.seeds k 0) (get_or list.editions k 0)

abbrev pub rule_at : Items → ℕ → Rule
rule_at list k = rule_named (get_or list.rules k 0) (at list.allowances k) (get_or list.limits k 0)

-- the number of the single call on item k, with scratch of these lengths
abbrev pub fault_at : List Float → ℕ → ℕ → Items → ℕ → ℕ → ℕ → ℕ
fault_at matrix m n list numbers indices k =
    job_fault (rule_at list k) (source_at list k).edition matrix m n (weights_at m list k) m numbers indices

-- its answer
unfoldable pub item_answer : List Float → ℕ → ℕ → Items → ℕ → ℕ → ℕ → Answer
item_answer matrix m n list numbers indices k =
    pick (eqb (fault_at matrix m n list numbers indices k) 0)
    (answer_of matrix n (weights_at m list k) (source_at list k) (rule_at list k))
    (refusal (fault_at matrix m n list numbers indices k))

-- what it leaves in its part of the output: its stage, or what was there
unfoldable pub item_output : List Float → ℕ → ℕ → Items → ℕ → ℕ → List Float → ℕ → List Float
item_output matrix m n list numbers indices output k =
    pick (eqb (item_answer matrix m n list numbers indices k).number 0)
    (returned matrix n (weights_at m list k) (source_at list k) (rule_at list k)).w
    (part (k * m) m output)
