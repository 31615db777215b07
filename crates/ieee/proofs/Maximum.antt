-- The larger of two, and the largest of many: at least each that is not a NaN, and never a NaN itself.
use mathlib.Core.Path.{◌≡◌, refl, sym, subst}
use mathlib.Core.Logic.{◌⊎◌, inl, inr}
use Prim.Native.Nat.{ℕ, zero, suc, ◌≤◌, ◌<◌}
use native.Mathlib.Nat.{le_trans, le-suc, lt-suc_self, le_refl, eq-or-lt_of_le}
use native.Mathlib.Omega.{arith}
use mathlib.Core.Bool.{Bool, true, false, not, ◌||◌, false≢true}
use lib.Dec.{T, le→leb}
use lib.Ieee.{Float, nan, inf, fin, Format, lt, le, eq, fits, is_nan}
use Rattle.seq.specs.Choice.{pick}
use Rattle.ieee.specs.Magnitude.{largest_to, larger_of}
use Rattle.ieee.specs.Units.{is_num}
use Rattle.ieee.proofs.Units.{rank}
use Rattle.ieee.proofs.Ranks.{Number, le-rank, le_transitive, lt_not_le}
use Rattle.ieee.proofs.Ops.{finite_number}
use Rattle.ieee.proofs.Signs.{nought-finite}

-- ---- a number is chosen by one test
pub larger_number : (x y : Float) → T (is_num x) → larger_of x y ≡ pick (lt x y) y x
unfolding larger_of is_nan
larger_number nan y h = absurd h
larger_number (inf s) y h = refl
larger_number (fin s m e) y h = refl

-- ---- a NaN is skipped
pub larger_nan : (x : Float) → larger_of x nan ≡ x
unfolding larger_of is_nan lt
larger_nan nan = refl
larger_nan (inf s) = refl
larger_nan (fin s m e) = refl

-- ---- of two numbers
pub record Larger (f : Format) (x y z : Float) : Type 0 where
  pub number : Number f z
  pub first : T (le x z)
  pub second : T (le y z)
  pub either : (z ≡ x) ⊎ (z ≡ y)

pub le_self : {f : Format} {x : Float} → Number f x → T (le x x)
le_self {f} {x} p = subst T (sym (le-rank p p)) (le→leb (rank f x) (rank f x) (le_refl (rank f x)))

pub larger_is : {f : Format} {x y : Float} → Number f x → Number f y → Larger f x y (larger_of x y)
larger_is {f} {x} {y} p q = subst (Larger f x y) (sym (larger_number x y p.num)) (go (lt x y) (lt_not_le p q))
  where
    lt-le : T (not (le y x)) → T (le x y)
    lt-le h = weaken (subst T (sym (lt_not_le p q)) h)
      where
        weaken : T (lt x y) → T (le x y)
        weaken t = unfold le in left (lt x y) (eq x y) t
          where
            left : (a b : Bool) → T a → T (a || b)
            left true b t = tt
            left false b t = absurd t

    go : (b : Bool) → b ≡ not (le y x) → Larger f x y (pick b y x)
    go true e = record { number = q; first = lt-le (subst T e tt); second = le_self q; either = inr refl }
    go false e = record { number = p; first = le_self p; second = yes (le y x) e; either = inl refl }
      where
        yes : (a : Bool) → false ≡ not a → T a
        yes true e = tt
        yes false e = absurd (false≢true e)

-- ---- of many
pub largest_number : (f : Format) (v : ℕ → Float) (k : ℕ) → ((j : ℕ) → j < k → T (fits f (v j))) → Number f (largest_to v k)
unfolding largest_to
largest_number f v zero h = finite_number (nought-finite f false)
largest_number f v (suc k) h = go (largest_number f v k (λ j l. h j (le_trans l (le-suc k)))) (v k) (h k (lt-suc_self k))
  where
    go : Number f (largest_to v k) → (y : Float) → T (fits f y) → Number f (larger_of (largest_to v k) y)
    go p nan q = subst (Number f) (sym (larger_nan (largest_to v k))) p
    go p (inf s) q = (larger_is p (record { held = q; num = tt })).number
    go p (fin s m e) q = (larger_is p (record { held = q; num = tt })).number

-- at least each term that is not a NaN
pub largest_ge : (f : Format) (v : ℕ → Float) (k : ℕ) → ((j : ℕ) → j < k → T (fits f (v j))) → (j : ℕ) → j < k → T (is_num (v j)) → T (le (v j) (largest_to v k))
unfolding largest_to
largest_ge f v zero h j l n = let z : ⊥ = omega arith in absurd z
largest_ge f v (suc k) h j l n = go (eq-or-lt_of_le (let g : j ≤ k = omega arith in g)) (largest_ge f v k (λ i g. h i (le_trans g (le-suc k))) j)
  where
    before : Number f (largest_to v k)
    before = largest_number f v k (λ i g. h i (le_trans g (le-suc k)))

    grows : (y : Float) → T (fits f y) → T (le (largest_to v k) (larger_of (largest_to v k) y))
    grows nan q = subst (λ (z : Float). T (le (largest_to v k) z)) (sym (larger_nan (largest_to v k))) (le_self before)
    grows (inf s) q = (larger_is before (record { held = q; num = tt })).first
    grows (fin s m e) q = (larger_is before (record { held = q; num = tt })).first

    go : (j ≡ k) ⊎ (j < k) → (j < k → T (is_num (v j)) → T (le (v j) (largest_to v k))) → T (le (v j) (larger_of (largest_to v k) (v k)))
    go (inl e) ih = subst (λ (i : ℕ). T (le (v i) (larger_of (largest_to v k) (v k)))) (sym e)
        (larger_is before (record { held = h k (lt-suc_self k); num = subst (λ (i : ℕ). T (is_num (v i))) e n })).second
    go (inr g) ih = le_transitive (record { held = h j l; num = n }) before (largest_number f v (suc k) h) (ih g n) (grows (v k) (h k (lt-suc_self k)))
