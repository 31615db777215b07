-- What a halving is handed, from what each call ensures: the remaining rest and the scratch of a colouring.
use Prim.Native.Nat.{ℕ, ◌+◌, ◌≤◌, ◌<◌}
use mathlib.Core.Path.{◌≡◌, sym, ◌∙◌}
use mathlib.Core.List.{List}
use native.Mathlib.Nat.{mul-le-mul}
use native.Mathlib.Omega.{arith}
use lib.ListN.{length, take}
use lib.Seq.{length-take-le}
use lib.Ieee.{Float}
use Rattle.seq.specs.Indices.{Pushed, Below}
use Rattle.weights.specs.Weights.{is_on}
use Rattle.doubling.specs.Doubling.{remaining}
use Rattle.doubling.proofs.Turns.{those_short}
use Rattle.doubling.proofs.Once.{every_at, every_those}
use Rattle.halved.specs.Handed.{Equipped, Ready}

-- the remaining of indices below n are below n
pub remaining-below : (w : List Float) (rest : List ℕ) (n : ℕ) → Below rest n → Below (remaining w rest) n
remaining-below w rest n b = record { below = λ p l. (every_at (every_those {P = λ j. j < n} (is_on w) rest (length rest) b.below) p l).1 }

-- the remaining rest, as it stands at the front of a buffer, with scratch as long
pub lent : {matrix : List Float} {bits : List ℕ} {n : ℕ} {w numbers : List Float} {indices rest : List ℕ} {k : ℕ} {some : List ℕ}
    {scale x : List Float} {blocked : List ℕ}
    → Ready matrix bits n w numbers indices → Below rest (length w) → length rest ≤ length w → Pushed (remaining w rest) k some
    → length scale ≡ k → length x ≡ k → length blocked ≡ n + 1 → Equipped matrix bits n w (take k some) scale x numbers blocked
lent {matrix} {bits} {n} {w} {numbers} {indices} {rest} {k} {some} r b s p es ex eb =
    let long : length (take k some) ≡ k = length-take-le k some p.within in
    let fewer : k ≤ length w = omega (arith, p.long, those_short (is_on w) rest (length rest)) in
    record {
      whole = r.whole;
      inside = rw p.front (remaining-below w rest (length w) b);
      few = omega (arith, r.few);
      short = r.short;
      scales = es ∙ sym long;
      colours = ex ∙ sym long;
      floats = rw long (omega (arith, r.floats, mul-le-mul fewer fewer));
      rows = eb;
      small = r.small;
    }

-- after a call that keeps the lengths
pub ready_still : {matrix : List Float} {bits : List ℕ} {n : ℕ} {w numbers w' numbers' : List Float} {indices indices' : List ℕ}
    → Ready matrix bits n w numbers indices
    → length w' ≡ length w → length numbers' ≡ length numbers → length indices' ≡ length indices → Ready matrix bits n w' numbers' indices'
ready_still r ew en ei =
    record {
      whole = rw ew r.whole;
      few = rw ew r.few;
      short = r.short;
      floats = rw (ew, en) r.floats;
      words = rw ei r.words;
      small = r.small;
    }
