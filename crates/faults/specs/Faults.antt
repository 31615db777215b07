-- What a job is refused for before any work is done: the first number that applies, in the order 1, 12, 2, 13, 3, .., 9. And the same of a
-- call for several jobs on one matrix, its items: 3 to 7 of the call as a whole, and of each item what is left.
use Rattle.std.specs.Prelude.{ℕ, ◌*◌, Bool, not, ◌||◌, List, eqb, ltb, length, Float, None, Some}
use Rattle.seq.specs.Choice.{pick, or_else}
use Rattle.seq.specs.Sums.{plus_zero}
use Rattle.limits.specs.Limits.{too_large, scratch_short, bounded, all_finite}
use Rattle.limits.specs.Votes.{bytes_of, spare_fault}
use Rattle.ieee.specs.Constants.{one}
use Rattle.weights.specs.Weights.{l1_of, sound}
use Rattle.rules.specs.Rules.{rule_fault}
use Rattle.rules.specs.declared.Rule.{Rule}
use Rattle.rules.specs.declared.Rule.TheVariants.{Target, Within}

-- The rule that a host names by a number: 0 for a target, 1 for an allowance, 2 for an allowance with a cap; the limit is the target or the
-- cap. Another number names neither, and is refused as a target of 0 is.
abbrev pub rule_named : ℕ → Float → ℕ → Rule
rule_named number allowance limit =
    pick (eqb number 0) (Target limit)
    (pick (eqb number 1) (Within allowance None)
    (pick (eqb number 2) (Within allowance (Some limit))
    (Target 0)))

-- 13 an edition that is neither 1 nor 2
abbrev pub edition_fault : ℕ → ℕ
edition_fault edition = pick (eqb edition 1 || eqb edition 2) 0 13

-- 5 no column or no row, 6 too little scratch
abbrev pub room_fault : ℕ → ℕ → ℕ → ℕ → ℕ
room_fault m n numbers indices = pick (eqb m 0 || eqb n 0) 5 (pick (scratch_short m n numbers indices) 6 0)

-- 3 too large, 4 another length than m and n say, then 5 and 6
unfoldable pub size_fault : ℕ → ℕ → ℕ → ℕ → ℕ → ℕ → ℕ → ℕ
size_fault m n matrix weights output numbers indices =
    pick (too_large m n) 3
    (pick (not (eqb matrix (m * n)) || (not (eqb weights m) || not (eqb output m))) 4
    (room_fault m n numbers indices))

-- 8 a weight that is not finite, 9 a sum of magnitudes that is 0 or infinite
abbrev pub weight_fault : List Float → ℕ
weight_fault w = pick (all_finite w) (pick (sound (l1_of plus_zero w)) 0 9) 8

-- 7 an entry outside [-1, 1], then 8 and 9
unfoldable pub value_fault : List Float → List Float → ℕ
value_fault matrix w = pick (bounded one matrix) (weight_fault w) 7

-- the first of all
unfoldable pub job_fault : Rule → ℕ → List Float → ℕ → ℕ → List Float → ℕ → ℕ → ℕ → ℕ
job_fault rule edition matrix m n w output numbers indices =
    or_else (rule_fault rule) (or_else (edition_fault edition)
    (or_else (size_fault m n (length matrix) (length w) output numbers indices) (value_fault matrix w)))

-- A list of a call for several items has another length than it is to have: the matrix so many entries, weights and output m places for
-- each item, and each other list one.
abbrev pub lists_off : ℕ → ℕ → ℕ → ℕ → ℕ → ℕ → ℕ → ℕ → ℕ → ℕ → ℕ → Bool
lists_off items m entries matrix weights seeds editions rules allowances limits output =
    not (eqb matrix entries) || not (eqb weights (items * m)) || not (eqb seeds items) || not (eqb editions items)
    || not (eqb rules items) || not (eqb allowances items) || not (eqb limits items) || not (eqb output (items * m))

-- of such a call as a whole: 3 too large or more than 64 items, 4 a list of another length, then 5 and 6, and last what is found in the
-- matrix
abbrev pub whole_of : ℕ → ℕ → ℕ → ℕ → ℕ → ℕ → ℕ → ℕ → ℕ → ℕ → ℕ → ℕ → ℕ → ℕ → ℕ → ℕ
whole_of items m n entries matrix weights seeds editions rules allowances limits output numbers indices found =
    pick (ltb 64 items || too_large m n) 3
    (pick (lists_off items m entries matrix weights seeds editions rules allowances limits output) 4
    (or_else (room_fault m n numbers indices) found))

-- on doubles: 7 is found where an entry lies outside [-1, 1]
unfoldable pub whole_fault : ℕ → List Float → ℕ → ℕ → ℕ → ℕ → ℕ → ℕ → ℕ → ℕ → ℕ → ℕ → ℕ → ℕ
whole_fault items matrix m n weights seeds editions rules allowances limits output numbers indices =
    whole_of items m n (m * n) (length matrix) weights seeds editions rules allowances limits output numbers indices
    (pick (bounded one matrix) 0 7)

-- on bits: 4 measures bytes, and 15 is found where a spare bit is set
unfoldable pub bits_whole_fault : ℕ → List ℕ → ℕ → ℕ → ℕ → ℕ → ℕ → ℕ → ℕ → ℕ → ℕ → ℕ → ℕ → ℕ
bits_whole_fault items bits m n weights seeds editions rules allowances limits output numbers indices =
    whole_of items m n (m * bytes_of n) (length bits) weights seeds editions rules allowances limits output numbers indices
    (spare_fault bits m n)

-- of an item of a call that is not refused as a whole
abbrev pub item_fault : Rule → ℕ → List Float → ℕ
item_fault rule edition w = or_else (rule_fault rule) (or_else (edition_fault edition) (weight_fault w))
