-- `ieee::signum` meets its contract: the library's sign is the one that is meant.
use mathlib.Core.Path.{◌≡◌, refl, ◌∙◌}
use lib.Ieee.{Float, nan, inf, fin}
use Rattle.std.specs.Float.{float_signum}
use Rattle.ieee.specs.Magnitude.{signum_of}
use Rattle.ieee.proofs.signum.Goals as goal

same : (x : Float) → float_signum x ≡ signum_of x
unfolding float_signum
same nan = refl
same (inf s) = refl
same (fin s m e) = refl

pub returns : goal.returns
returns c = c.signum.ensures ∙ same c.args.x
