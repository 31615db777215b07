-- A test of every number below k: what it says of each, and when it holds.
use Prim.Native.Nat.{ℕ, zero, suc, ◌<◌}
use mathlib.Core.Path.{◌≡◌, refl}
use mathlib.Core.Bool.{Bool, true}
use native.Mathlib.Decide.{dec_lt}
use native.Mathlib.Omega.{arith}
use Rattle.seq.specs.Keep.{all_to}
use Rattle.seq.proofs.Choosing.{both}

pub every_at : (f : ℕ → Bool) (k j : ℕ) → all_to f k ≡ true → j < k → f j ≡ true
unfolding all_to
every_at f zero j h g = absurd (omega arith)
every_at f (suc k) j h g = go (dec_lt j k) (every_at f k j (both (all_to f k) (f k) h).0)
  where
    go : Dec (j < k) → (j < k → f j ≡ true) → f j ≡ true
    go (yes e) r = r e
    go (no e) r =
        let p : j ≡ k = omega arith in
        rw p (both (all_to f k) (f k) h).1

pub every_holds : (f : ℕ → Bool) (k : ℕ) → ((j : ℕ) → j < k → f j ≡ true) → all_to f k ≡ true
unfolding all_to
every_holds f zero h = refl
every_holds f (suc k) h = rw (every_holds f k (λ j g. h j (omega arith)), h k (omega arith))

pub every_same : (f g : ℕ → Bool) (k : ℕ) → ((j : ℕ) → j < k → f j ≡ g j) → all_to f k ≡ all_to g k
unfolding all_to
every_same f g zero h = refl
every_same f g (suc k) h = rw (every_same f g k (λ j e. h j (omega arith)), h k (omega arith))
