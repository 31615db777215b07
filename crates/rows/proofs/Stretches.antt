-- Laws of a stretch of rows: the array which holds it gives back what was written to it.
use Prim.Native.Nat.{ℕ, ◌≤◌}
use mathlib.Core.Path.{◌≡◌}
use mathlib.Core.List.{List, ◌++◌}
use native.Mathlib.Omega.{arith}
use lib.ListN.{length, take, drop}
use lib.Seq.{length-take-le, length_front, take_at}
use lib.Ieee.{Float}
use Rattle.seq.specs.Lists.{tabulate}
use Rattle.seq.proofs.Filling.{length-tab}

-- what was written to the front of an array is read from it
pub front_back : (k : ℕ) (old new : List Float) (f : ℕ → Float) → k ≤ length old → new ≡ tabulate f (length (take k old)) → take k
    (new ++ drop k old) ≡ tabulate f k
front_back k old new f h e =
    let l : length (take k old) ≡ k = length-take-le k old h in
    let n : new ≡ tabulate f k = rw l at e in
    rw n (take_at (tabulate f k) (drop k old) k (length-tab f k))

-- the front of an array that came back is as long as what was lent
pub front_long : (k : ℕ) (old new : List Float) → k ≤ length old → length new ≡ length (take k old) → length (take k (new ++ drop k old)) ≡ k
front_long k old new h e = length-take-le k (new ++ drop k old) (omega (arith, length_front old new k e))
