-- `change::change_of` meets its contract: either block has a whole number of bytes' rows.
use mathlib.Core.Path.{refl}
use native.Mathlib.Omega.{arith}
use Rattle.change.proofs.change_of.Goals as goal

pub largest_change-requires : goal.largest_change-requires
largest_change-requires c = (c.requires, omega arith, refl)

pub returns-then-n-le64 : goal.returns-then-n-le64
returns-then-n-le64 c = c.largest_change.ensures

pub largest_change-requires-2 : goal.largest_change-requires-2
largest_change-requires-2 c = (c.requires, omega arith, refl)

pub returns : goal.returns
returns c = c.largest_change-2.ensures
