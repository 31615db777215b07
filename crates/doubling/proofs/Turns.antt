-- One turn of each loop: what the choice of the remaining and the halving are at one more index, for each way that the test goes.
use Prim.Native.Nat.{ℕ, zero, suc, ◌+◌, ◌≤◌}
use mathlib.Core.Path.{◌≡◌, refl, ◌∙◌}
use mathlib.Core.Bool.{Bool, true, false}
use mathlib.Core.List.{List, [], ◌∷◌, ◌++◌}
use native.Mathlib.Omega.{arith}
use native.Mathlib.Numerals.{add-one}
use lib.ListN.{length, get_or, set, length-append, length-set}
use lib.Ieee.{Float, binary64, mul, eq}
use Rattle.seq.specs.Choice.{pick}
use Rattle.seq.specs.Sums.{plus_zero, at}
use Rattle.ieee.specs.Constants.{two}
use Rattle.doubling.specs.Doubling.{those_to, halved_to}

-- those that pass
pub chooses : (f : ℕ → Bool) (xs : List ℕ) (i : ℕ) → f (get_or xs i 0) ≡ true → those_to f xs (i + 1) ≡ those_to f xs i ++ (get_or xs i 0 ∷ [])
unfolding those_to
chooses f xs i h = rw (add-one i, h)

pub leaves : (f : ℕ → Bool) (xs : List ℕ) (i : ℕ) → f (get_or xs i 0) ≡ false → those_to f xs (i + 1) ≡ those_to f xs i
unfolding those_to
leaves f xs i h = rw (add-one i, h)

pub those_short : (f : ℕ → Bool) (xs : List ℕ) (k : ℕ) → length (those_to f xs k) ≤ k
unfolding those_to
those_short f xs zero = omega arith
those_short f xs (suc k) = go (f (get_or xs k 0)) (those_short f xs k)
  where
    go : (t : Bool) → length (those_to f xs k) ≤ k → length (pick t (those_to f xs k ++ (get_or xs k 0 ∷ [])) (those_to f xs k)) ≤ suc k
    go true h = rw length-append (omega arith)
    go false h = omega arith

-- the halving
module _ (w : List Float) (rest : List ℕ) (x : List Float) (sigma : Float) where
  pub doubles : (p : ℕ) → eq (at x p) sigma ≡ true
      → halved_to w rest x sigma (p + 1) ≡ set (halved_to w rest x sigma p) (get_or rest p 0) (mul binary64 two (at (halved_to w rest x sigma p) (get_or rest p 0)))
  unfolding halved_to
  doubles p h = rw (add-one p, h)

  pub zeroes : (p : ℕ) → eq (at x p) sigma ≡ false
      → halved_to w rest x sigma (p + 1) ≡ set (halved_to w rest x sigma p) (get_or rest p 0) plus_zero
  unfolding halved_to
  zeroes p h = rw (add-one p, h)

  pub length_halved : (p : ℕ) → length (halved_to w rest x sigma p) ≡ length w
  unfolding halved_to
  length_halved zero = refl
  length_halved (suc p) = length-set (halved_to w rest x sigma p) (get_or rest p 0) _ ∙ length_halved p
