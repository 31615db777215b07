-- How far the first line can reach: sums of the widths of the fields.
use Prim.Native.Nat.{ℕ, suc, ◌+◌, ◌≤◌}
use mathlib.Core.Bool.{Bool, true, false}
use mathlib.Core.List.{List}
use native.Mathlib.Omega.{arith}
use lib.Dec.{eqb}
use Rattle.seq.specs.Choice.{pick}
use Rattle.fields.specs.Bytes.{byte_at, spelled}
use Rattle.fields.specs.Fields.{count_at}
use Rattle.fields.proofs.Widths.{count_next}
use Rattle.head.specs.Words.{target_word, within_word, second_edition, dash}
use Rattle.head.specs.FirstLine.{cap_at, within_at, rule_at, sizes_at, edition_at, head_of}
use Rattle.head.specs.declared.CapField.{CapField}
use Rattle.head.specs.declared.RuleField.{RuleField}
use Rattle.head.specs.declared.EditionField.{EditionField}

-- where a choice of two caps goes on
pick_cap : (t : Bool) (a b : CapField) (k : ℕ) → a.next ≤ k → b.next ≤ k → (pick t a b).next ≤ k
pick_cap true a b k h g = h
pick_cap false a b k h g = g

-- and of two rules
pick_rule : (t : Bool) (a b : RuleField) (k : ℕ) → a.next ≤ k → b.next ≤ k → (pick t a b).next ≤ k
pick_rule true a b k h g = h
pick_rule false a b k h g = g

-- and of two ends of the line
pick_edition : (t : Bool) (a b : EditionField) (k : ℕ) → a.next ≤ k → b.next ≤ k → (pick t a b).next ≤ k
pick_edition true a b k h g = h
pick_edition false a b k h g = g

pub cap_next : (t : List ℕ) (i : ℕ) → (cap_at t i).next ≤ i + 11
unfolding cap_at
cap_next t i = pick_cap (eqb (byte_at t i) dash) _ _ (i + 11) (omega arith) (count_next t i)

pub within_next : (t : List ℕ) (i : ℕ) → (within_at t i).next ≤ i + 28
unfolding within_at
within_next t i = omega (arith, cap_next t (i + 17))

pub rule_next : (t : List ℕ) (i : ℕ) → (rule_at t i).next ≤ i + 35
unfolding rule_at
rule_next t i =
    pick_rule (spelled target_word t i) _ _ (i + 35) (omega (arith, count_next t (i + 7)))
    (pick_rule (spelled within_word t i) _ _ (i + 35) (omega (arith, within_next t (i + 7))) (omega arith))

pub sizes_next : (t : List ℕ) (i : ℕ) → (sizes_at t i).next ≤ i + 24
unfolding sizes_at
sizes_next t i = omega (arith, count_next t i, count_next t (suc (count_at t i).next))

pub edition_next : (t : List ℕ) (i : ℕ) → (edition_at t i).next ≤ i + 3
unfolding edition_at
edition_next t i = pick_edition (spelled second_edition t i) _ _ (i + 3) (omega arith) (omega arith)

-- the first line has at most 84 bytes
pub head_next : (t : List ℕ) → (head_of t).next ≤ 84
unfolding head_of
head_next t =
    let i : ℕ = (sizes_at t 5).next in
    omega (arith, sizes_next t 5, rule_next t (i + 17), edition_next t (rule_at t (i + 17)).next)

-- how far each part reaches that others follow
pub ruleset reaches = (sizes_next, rule_next)
