-- What a thinning from bits is refused for: as one from doubles is, but 4 measures bytes, and 15 stands in the place of 7.
use Rattle.std.specs.Prelude.{ℕ, ◌*◌, not, ◌||◌, List, eqb, length, Float}
use Rattle.seq.specs.Choice.{pick, or_else}
use Rattle.limits.specs.Limits.{too_large}
use Rattle.limits.specs.Votes.{bytes_of, spare_fault}
use Rattle.rules.specs.Rules.{rule_fault}
use Rattle.rules.specs.declared.Rule.{Rule}
use Rattle.faults.specs.Faults.{edition_fault, room_fault, weight_fault}

-- 3 too large, 4 another length than m and n say, then 5 and 6
unfoldable pub bytes_fault : ℕ → ℕ → ℕ → ℕ → ℕ → ℕ → ℕ → ℕ
bytes_fault m n bytes weights output numbers indices =
    pick (too_large m n) 3
    (pick (not (eqb bytes (m * bytes_of n)) || (not (eqb weights m) || not (eqb output m))) 4
    (room_fault m n numbers indices))

-- the first in the order 1, 12, 2, 13, 3, 4, 5, 6, 15, 8, 9
unfoldable pub votes_fault : Rule → ℕ → List ℕ → ℕ → ℕ → List Float → ℕ → ℕ → ℕ → ℕ
votes_fault rule edition bits m n w output numbers indices =
    or_else (rule_fault rule) (or_else (edition_fault edition)
    (or_else (bytes_fault m n (length bits) (length w) output numbers indices)
    (or_else (spare_fault bits m n) (weight_fault w))))
