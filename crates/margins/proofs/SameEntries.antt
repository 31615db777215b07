-- Changes and counts read a matrix only at its m columns and n rows: two matrices with the same entries there have the same of both.
use Prim.Native.Nat.{ℕ, zero, suc, ◌≤◌, ◌<◌}
use mathlib.Core.Path.{◌≡◌, refl}
use mathlib.Core.List.{List}
use native.Mathlib.Omega.{arith}
use lib.Ieee.{Float, binary64, mul}
use Rattle.seq.specs.Sums.{plus_zero, at}
use Rattle.seq.proofs.Summing.{sum_cong}
use Rattle.ieee.specs.Magnitude.{max_abs_to}
use Rattle.change.specs.Margins.{change_to, max_change}
use Rattle.turned.specs.Turned.{margin_at, turns_at, turned_count}
use Rattle.turned.proofs.Counting.{count_cong}

-- the largest of the same magnitudes
largest_cong : (v w : ℕ → Float) (k : ℕ) → ((i : ℕ) → i < k → v i ≡ w i) → max_abs_to v k ≡ max_abs_to w k
unfolding max_abs_to
largest_cong v w zero h = refl
largest_cong v w (suc k) h = rw (largest_cong v w k (λ i l. h i (omega arith)), h k (omega arith))

module _ (a b : ℕ → ℕ → Float) (m n : ℕ) (same : (j i : ℕ) → j < m → i < n → a j i ≡ b j i) where
  -- the change at a row, over the columns below k
  pub change_same : (before after : List Float) (i : ℕ) → i < n → (k : ℕ) → k ≤ m → change_to a before after i k ≡ change_to b before after i k
  unfolding change_to
  change_same before after i h zero l = refl
  change_same before after i h (suc k) l = rw (change_same before after i h k (omega arith), same k i (omega arith) h)

  -- the largest change
  pub largest_same : (before after : List Float) → max_change a m n before after ≡ max_change b m n before after
  unfolding max_change
  largest_same before after =
      largest_cong (λ i. change_to a before after i m) (λ i. change_to b before after i m) n (λ i h. change_same before after i h m (omega arith))

  -- the margin at a row
  margin_same : (w : List Float) (i : ℕ) → i < n → margin_at a m w i ≡ margin_at b m w i
  margin_same w i h =
      sum_cong binary64 plus_zero (λ j. mul binary64 (a j i) (at w j)) (λ j. mul binary64 (b j i) (at w j)) m (λ j l. rw (same j i l h))

  -- how many rows turn
  pub turned_same : (before after thresholds : List Float) → turned_count a m n before after thresholds ≡ turned_count b m n before after thresholds
  unfolding turned_count
  turned_same before after thresholds =
      count_cong (turns_at a m before after thresholds) (turns_at b m before after thresholds) n
      (λ i h. rw (margin_same before i h, margin_same after i h))
