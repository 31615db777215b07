-- What a rule is refused for, and when its cap is met.
use Rattle.std.specs.Prelude.{ℕ, Bool, true, eqb, leb, None, Option, Some}
use Rattle.std.specs.Float.Ieee.{le}
use Rattle.std.specs.Float.Ieee.Scale.{finite}
use Rattle.seq.specs.Choice.{pick}
use Rattle.seq.specs.Sums.{plus_zero}
use Rattle.rules.specs.declared.Rule.{Rule}
use Rattle.rules.specs.declared.Rule.TheVariants.{Target, Within}

-- 2 where the cap is 0
abbrev pub cap_fault : Option ℕ → ℕ
cap_fault None = 0
cap_fault (Some c) = pick (eqb c 0) 2 0

-- 1 where the allowance is negative or a NaN, 12 where it is infinite, 2 where the target or the cap is 0: the first in this order
abbrev pub rule_fault : Rule → ℕ
rule_fault (Target t) = pick (eqb t 0) 2 0
rule_fault (Within allowance cap) = pick (le plus_zero allowance) (pick (finite allowance) (cap_fault cap) 12) 1

-- so many nonzeros meet the cap; an absent one is always met
abbrev pub meets : Option ℕ → ℕ → Bool
meets None k = true
meets (Some c) k = leb k c
