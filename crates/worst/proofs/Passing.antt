-- The worst row stays the worst over rows that are passed over.
use Prim.Native.Nat.{ℕ, ◌+◌, ◌<◌}
use mathlib.Core.Path.{◌≡◌, refl}
use mathlib.Core.Bool.{true, false}
use mathlib.Core.List.{List}
use lib.Dec.{T}
use lib.ListN.{length}
use lib.Ieee.{Float, binary64, le, fits}
use Rattle.seq.specs.Sums.{at}
use Rattle.seq.specs.Marks.{is_set}
use Rattle.seq.specs.Passing.{PassedTo}
use Rattle.seq.proofs.Choosing.{one_holds}
use Rattle.seq.proofs.Passing.{over-passed}
use Rattle.ieee.specs.Magnitude.{abs_of}
use Rattle.order.proofs.Ranking.{Worst, worst_still, worst_below}
use Rattle.worst.specs.Passed.{passed}

module _ {ax : List Float} {blocked : List ℕ} {w : ℕ} {top : Float} (doubles : (k : ℕ) → T (fits binary64 (at ax k))) where
  one_past : (k : ℕ) → k < length ax → passed ax blocked top k ≡ true → Worst ax blocked k w top → Worst ax blocked (k + 1) w top
  one_past k h e v = one_holds (le (abs_of (at ax k)) top) (is_set blocked k) e (worst_below v h (doubles k) (doubles w))
      (λ d s. worst_still v h false refl (rw s refl))

  pub worst_past : {k r : ℕ} → Worst ax blocked k w top → PassedTo (passed ax blocked top) (length ax) k r → Worst ax blocked r w top
  worst_past v p = over-passed (λ k. Worst ax blocked k w top) (λ k l h e u. one_past k h e u) v p
