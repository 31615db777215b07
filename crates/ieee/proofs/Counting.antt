-- How many pass a test: as many at most as pass a weaker one, and fewer where some one passes the weaker alone.
use mathlib.Core.Path.{◌≡◌, subst}
use mathlib.Core.Logic.{◌⊎◌, inl, inr}
use Prim.Native.Nat.{ℕ, zero, suc, ◌≤◌, ◌<◌, zero-le}
use native.Mathlib.Nat.{le_trans, le-suc, lt-suc_self, eq-or-lt_of_le}
use native.Mathlib.Omega.{arith}
use mathlib.Core.Bool.{Bool, true, false, not}
use lib.Dec.{T}
use Rattle.seq.specs.Choice.{pick}
use Rattle.seq.specs.Keep.{count}

pub count-le : (p q : ℕ → Bool) (k : ℕ) → ((j : ℕ) → j < k → T (p j) → T (q j)) → count p k ≤ count q k
unfolding count
count-le p q zero h = zero-le
count-le p q (suc k) h = go (p k) (q k) (h k (lt-suc_self k)) (count-le p q k (λ j l. h j (le_trans l (le-suc k))))
  where
    go : (a b : Bool) → (T a → T b) → count p k ≤ count q k → pick a (suc (count p k)) (count p k) ≤ pick b (suc (count q k)) (count q k)
    go true true t l = omega arith
    go true false t l = absurd (t tt)
    go false true t l = omega arith
    go false false t l = l

-- one that was and is no more
pub count-lt : (p q : ℕ → Bool) (k i : ℕ) → ((j : ℕ) → j < k → T (p j) → T (q j)) → i < k → T (not (p i)) → T (q i) → count p k < count q k
unfolding count
count-lt p q zero i h l n t = let b : ⊥ = omega arith in absurd b
count-lt p q (suc k) i h l n t = go (eq-or-lt_of_le (let g : i ≤ k = omega arith in g)) (λ g. count-lt p q k i (λ j m. h j (le_trans m (le-suc k))) g n t)
  where
    here : (a b : Bool) → T (not a) → T b → count p k ≤ count q k → pick a (suc (count p k)) (count p k) < pick b (suc (count q k)) (count q k)
    here true b x y l = absurd x
    here false true x y l = omega arith
    here false false x y l = absurd y

    before : (a b : Bool) → (T a → T b) → count p k < count q k → pick a (suc (count p k)) (count p k) < pick b (suc (count q k)) (count q k)
    before true true t l = omega arith
    before true false t l = absurd (t tt)
    before false true t l = omega arith
    before false false t l = l

    go : (i ≡ k) ⊎ (i < k) → (i < k → count p k < count q k) → pick (p k) (suc (count p k)) (count p k) < pick (q k) (suc (count q k)) (count q k)
    go (inl e) ih = here (p k) (q k) (subst (λ (j : ℕ). T (not (p j))) e n) (subst (λ (j : ℕ). T (q j)) e t)
        (count-le p q k (λ j m. h j (le_trans m (le-suc k))))
    go (inr g) ih = before (p k) (q k) (h k (lt-suc_self k)) (ih g)
