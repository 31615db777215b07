-- Laws of `run`: where a size falls with each step, the fuel does not matter, and a turn of the loop is a step.
use Prim.Native.Nat.{ℕ, zero, suc, ◌≤◌, ◌<◌}
use mathlib.Core.Path.{◌≡◌, refl}
use mathlib.Core.Bool.{Bool, true, false}
use native.Mathlib.Omega.{arith}
use Rattle.seq.specs.Choice.{pick}
use Rattle.seq.specs.Until.{run}

module _ {S : Type 0} (done : S → Bool) (next : S → S) (size : S → ℕ) (falls : (s : S) → done s ≡ false → size (next s) < size s) where
  pub stays : (k : ℕ) (s : S) → done s ≡ true → run done next k s ≡ s
  unfolding run
  stays zero s h = refl
  stays (suc k) s h = rw h

  pub enough : (k j : ℕ) (s : S) → size s ≤ k → size s ≤ j → run done next k s ≡ run done next j s
  unfolding run
  enough zero zero s h g = refl
  enough zero (suc j) s h g = go (done s) refl
    where
      go : (t : Bool) → done s ≡ t → s ≡ pick t s (run done next j (next s))
      go true e = refl
      go false e = absurd (omega (arith, falls s e))
  enough (suc k) zero s h g = go (done s) refl
    where
      go : (t : Bool) → done s ≡ t → pick t s (run done next k (next s)) ≡ s
      go true e = refl
      go false e = absurd (omega (arith, falls s e))
  enough (suc k) (suc j) s h g = go (done s) refl (enough k j (next s))
    where
      go : (t : Bool) → done s ≡ t → (size (next s) ≤ k → size (next s) ≤ j → run done next k (next s) ≡ run done next j (next s))
          → pick t s (run done next k (next s)) ≡ pick t s (run done next j (next s))
      go true e r = refl
      go false e r = r (omega (arith, falls s e)) (omega (arith, falls s e))

  -- a turn of the loop
  pub turns : (s : S) → done s ≡ false → run done next (size s) s ≡ run done next (size (next s)) (next s)
  unfolding run
  turns s e = go (size s) refl
    where
      go : (k : ℕ) → size s ≡ k → run done next k s ≡ run done next (size (next s)) (next s)
      go zero h = absurd (omega (arith, falls s e))
      go (suc k) h = rw e (enough k (size (next s)) (next s) (omega (arith, falls s e)) (omega arith))
