-- `ieee::abs` meets its contract: whether x is above 0.0 says which of x and 0.0 - x is the magnitude.
use mathlib.Core.Path.{sym, subst}
use lib.Dec.{T}
use Rattle.ieee.proofs.Magnitudes.{abs_kept, abs_turned}
use Rattle.ieee.proofs.abs.Goals as goal

pub returns-then-x : goal.returns-then-x
returns-then-x c = abs_kept _ (subst T (sym c.well_formed.0.1) tt) c.if-x.true

pub returns-else-x : goal.returns-else-x
returns-else-x c = abs_turned _ (subst T (sym c.well_formed.0.1) tt) c.if-x.false
