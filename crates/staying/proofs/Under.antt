-- Four rows that do not reach the bound leave the largest magnitude below it.
use Prim.Native.Nat.{ℕ, zero, suc, ◌+◌, ◌*◌, ◌/◌, ◌%◌, ◌<◌}
use mathlib.Core.Path.{◌≡◌, refl, sym, ap, ◌∙◌, subst}
use mathlib.Core.Bool.{Bool, true, false, not, ◌||◌, false≢true}
use mathlib.Core.List.{List}
use native.Mathlib.Omega.{arith}
use lib.Dec.{T}
use lib.ListN.{get_or}
use lib.Ieee.{Float, binary64, sub, lt, le, fits}
use lib.Ieee.Fits.{sub-fits}
use Rattle.seq.specs.Lists.{tabulate}
use Rattle.seq.specs.Sums.{at}
use Rattle.ieee.specs.Magnitude.{abs_of}
use Rattle.ieee.specs.Magnitude.{max_abs_to}
use Rattle.columns.proofs.Bounding.{still_below}
use Rattle.limits.specs.Votes.{bit_at}
use Rattle.votes.specs.Signing.{signed_by, pair_at}
use Rattle.staying.specs.Below.{less_signed, below_four}
use Rattle.votes.proofs.Rows.{Signs, low_signs, high_signs}

record Nothing (a b c d : Bool) : Type 0 where
  one : a ≡ false
  two : b ≡ false
  three : c ≡ false
  four : d ≡ false

nothing : (a b c d : Bool) → not (((a || b) || c) || d) ≡ true → Nothing a b c d
nothing true b c d e = absurd (false≢true e)
nothing false true c d e = absurd (false≢true e)
nothing false false true d e = absurd (false≢true e)
nothing false false false true e = absurd (false≢true e)
nothing false false false false e = record { one = refl; two = refl; three = refl; four = refl }

module _ (column : List ℕ) (t : Float) (ax : List Float) (bound : Float) (good : T (fits binary64 bound)) where
  more : (i : ℕ) (x : Float) → lt (max_abs_to (less_signed column t ax) i) bound ≡ true → x ≡ signed_by (bit_at column i) t
      → le bound (abs_of (sub binary64 (at ax i) x)) ≡ false
      → lt (max_abs_to (less_signed column t ax) (i + 1)) bound ≡ true
  more i x e g h = still_below (less_signed column t ax) (λ j. sub-fits binary64 _ _) bound good i e
      (ap (λ (z : Float). le bound (abs_of (sub binary64 (at ax i) z))) (sym g) ∙ h)

  abbrev Under : ℕ → Type 0
  Under i = lt (max_abs_to (less_signed column t ax) i) bound ≡ true

  four-under : (pairs : List Float) (r v : ℕ) → Under r → Signs column t r pairs (2 * (v % 4)) (2 * (v / 4)) → below_four ax r pairs v bound ≡ true
      → Under (r + 4)
  unfolding below_four
  four-under pairs r v e s h =
      let k = nothing (le bound (abs_of (sub binary64 (at ax r) (at pairs (2 * (v % 4))))))
      (le bound (abs_of (sub binary64 (at ax (r + 1)) (at pairs (2 * (v % 4) + 1)))))
      (le bound (abs_of (sub binary64 (at ax (r + 2)) (at pairs (2 * (v / 4))))))
      (le bound (abs_of (sub binary64 (at ax (r + 3)) (at pairs (2 * (v / 4) + 1))))) h in
      let one : Under (r + 1) = more r _ e s.first k.one in
      let two : Under (r + 2) = subst Under (let d : r + 1 + 1 ≡ r + 2 = omega arith in d) (more (r + 1) _ one s.second k.two) in
      let three : Under (r + 3) = subst Under (let d : r + 2 + 1 ≡ r + 3 = omega arith in d) (more (r + 2) _ two s.third k.three) in
      subst Under (let d : r + 3 + 1 ≡ r + 4 = omega arith in d) (more (r + 3) _ three s.fourth k.four)

  pub byte_under : (pairs : List Float) (k b : ℕ) → pairs ≡ tabulate (pair_at t) 8 → b ≡ get_or column k 0 → b < 256 → Under (8 * k)
      → below_four ax (8 * k) pairs (b % 16) bound ≡ true → below_four ax (8 * k + 4) pairs (b / 16) bound ≡ true → Under (8 * (k + 1))
  byte_under pairs k b m g l e x y =
      subst Under (let d : 8 * k + 4 + 4 ≡ 8 * (k + 1) = omega arith in d)
      (four-under pairs (8 * k + 4) (b / 16) (four-under pairs (8 * k) (b % 16) e (low_signs t column k b g l pairs m) x)
      (high_signs t column k b g l pairs m) y)

-- rows that agree have the same largest magnitude
pub max_cong : (v w : ℕ → Float) (k : ℕ) → ((i : ℕ) → i < k → v i ≡ w i) → max_abs_to v k ≡ max_abs_to w k
unfolding max_abs_to
max_cong v w zero h = refl
max_cong v w (suc k) h = rw (max_cong v w k (λ i l. h i (omega arith)), h k (omega arith))
