-- A cap as a host in C names it: whether there is one, and which.
use Rattle.std.specs.Prelude.{ℕ, eqb, None, Option, Some}
use Rattle.seq.specs.Choice.{pick}

-- none where `capped` is 0
abbrev pub cap_of : ℕ → ℕ → Option ℕ
cap_of capped cap = pick (eqb capped 0) None (Some cap)
