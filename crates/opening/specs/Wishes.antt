-- The wish that a rule's number says, as a sheet's first line has it.
use Rattle.std.specs.Prelude.{ℕ, eqb, None, Option, Some}
use Rattle.seq.specs.Choice.{pick}
use Rattle.form.specs.Sheets.{Wish, target, within}

-- the cap of a rule's number that is not 0
abbrev pub cap_for : ℕ → ℕ → Option ℕ
cap_for rule limit = pick (eqb rule 1) None (Some limit)

-- the wish of a rule's number: 0 a target, 1 an allowance without a cap, 2 an allowance with one
abbrev pub wish_for : ℕ → ℕ → ℕ → Wish
wish_for rule allowance limit = pick (eqb rule 0) (target limit) (within allowance (cap_for rule limit))
