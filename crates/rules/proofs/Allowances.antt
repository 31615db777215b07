-- The largest finite allowance is good, and an infinite one is refused by 12 whatever its cap.
use Rattle.std.specs.Prelude.{ℕ, Option}
use mathlib.Core.Path.{◌≡◌, refl}
use lib.Ieee.{binary64, of_bits, le, lt, eq}
use Rattle.rules.specs.Rules.{cap_fault, rule_fault}
use Rattle.rules.specs.declared.Rule.TheVariants.{Within}

pub largest_good : (cap : Option ℕ) → rule_fault (Within (of_bits binary64 0x7FEF_FFFF_FFFF_FFFF) cap) ≡ cap_fault cap
unfolding of_bits le lt eq
largest_good cap = refl

pub infinite_refused : (cap : Option ℕ) → rule_fault (Within (of_bits binary64 0x7FF0_0000_0000_0000) cap) ≡ 12
unfolding of_bits le lt eq
infinite_refused cap = refl
