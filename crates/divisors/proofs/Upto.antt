-- A rule at each number below n, from one test that is computed over all of them; and a quotient that grows with its dividend.
use Prim.Native.Nat.{ℕ, zero, suc, ◌/◌, ◌≤◌, ◌<◌}
use mathlib.Core.Bool.{Bool, true, false}
use mathlib.Core.Path.{◌≡◌, subst, sym}
use mathlib.Core.Logic.{⊎_elim}
use native.Mathlib.Nat.{not-suc-le-zero, le_of_suc-le-suc, eq-or-lt_of_le, mul-le-mul_right}
use lib.Dec.{T}
use lib.Ieee.Nearest.{div_mono}

-- one test and then the other
abbrev both : Bool → Bool → Bool
both true b = b
both false b = false

-- the test f passes at each number below n
abbrev pub upto : (ℕ → Bool) → ℕ → Bool
upto f zero = true
upto f (suc n) = both (f n) (upto f n)

left : (a b : Bool) → T (both a b) → T a
left true b t = tt
left false b t = t

right : (a b : Bool) → T (both a b) → T b
right true b t = t
right false b t = absurd t

-- and so f holds at each of them
pub below : (f : ℕ → Bool) (n : ℕ) → T (upto f n) → (k : ℕ) → k < n → T (f k)
below f zero t k h = absurd (not-suc-le-zero h)
below f (suc n) t k h =
    ⊎_elim
    (λ (e : k ≡ n). subst (λ (x : ℕ). T (f x)) (sym e) (left (f n) (upto f n) t))
    (λ (l : k < n). below f n (right (f n) (upto f n) t) k l)
    (eq-or-lt_of_le (le_of_suc-le-suc h))

pub div_grows : {a b : ℕ} (c : ℕ) → 0 < c → a ≤ b → a / c ≤ b / c
div_grows {a} {b} c p h = div_mono a c b c p p (mul-le-mul_right c h)
