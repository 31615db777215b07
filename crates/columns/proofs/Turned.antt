-- A column that is taken away is one that is added with a minus.
use Prim.Native.Nat.{ℕ}
use mathlib.Core.Path.{◌≡◌, ap, ◌∙◌}
use mathlib.Core.List.{List}
use lib.Ieee.{Float, binary64, add, sub, mul, neg}
use Rattle.seq.specs.Lists.{tabulate}
use Rattle.seq.specs.Sums.{at}
use Rattle.seq.proofs.Filling.{tab_cong}
use Rattle.ieee.proofs.Ops.{mul_commutes}
use Rattle.ieee.proofs.Negation.{times-neg}
use Rattle.columns.specs.Kernels.{plus_column, less_column}

-- x + c -t is x - t c
less-term : (x c t : Float) → add binary64 x (mul binary64 c (neg t)) ≡ sub binary64 x (mul binary64 t c)
unfolding sub
less-term x c t = ap (add binary64 x) (times-neg binary64 c t ∙ ap neg (mul_commutes binary64 c t))

-- row by row
pub less_is_plus : (column : ℕ → Float) (t : Float) (ax : List Float) (k : ℕ)
    → tabulate (plus_column column (neg t) ax) k ≡ tabulate (less_column column t ax) k
less_is_plus column t ax k = tab_cong _ _ k (λ i h. less-term (at ax i) (column i) t)
