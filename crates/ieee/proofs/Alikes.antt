-- `Alike` is an equivalence that every operation respects, comparisons cannot see, and running sums and the functions of this crate keep.
use mathlib.Core.Path.{◌≡◌, refl, sym, ap, ◌∙◌, subst}
use Prim.Native.Nat.{ℕ, zero, suc, ◌*◌, ◌^◌, ◌<◌}
use native.Mathlib.Nat.{le_trans, le-suc, lt-suc_self, pow-succ'}
use native.Mathlib.Omega.{arith}
use mathlib.Core.Bool.{Bool, true, false, not}
use lib.IntN.{ℤ, pos, negsuc}
use lib.Dec.{T, eqb→eq}
use lib.Pow.{pow_pos}
use lib.Ieee.{Float, nan, inf, fin, Format, neg, add, sub, mul, div, lt, le, eq, fits, is_nan, binary64}
use Rattle.seq.specs.Choice.{pick}
use Rattle.seq.specs.Sums.{sum_from, sum_to, plus_zero}
use Rattle.ieee.specs.Flat.{flat, Alike, is_zero}
use Rattle.ieee.specs.Magnitude.{abs_of, clamp_of, larger_of, smaller_of, above_of, largest_to}
use Rattle.ieee.specs.Pass.{sum_up}
use Rattle.ieee.proofs.Signs.{nought_is}
use Rattle.ieee.proofs.Flat.{abs_flat, add-flat, div-flat, eq-flat, le-flat, lt-flat, mul-flat, neg-flat, sub-flat}

pub alike_refl : (x : Float) → Alike x x
alike_refl x = record { flatly = refl }

pub alike_of_eq : {x y : Float} → x ≡ y → Alike x y
alike_of_eq e = record { flatly = ap flat e }

pub alike_trans : {x y z : Float} → Alike x y → Alike y z → Alike x z
alike_trans p q = record { flatly = p.flatly ∙ q.flatly }

pub alike_zeros : (s t : Bool) → Alike (fin s 0 (pos 0)) (fin t 0 (pos 0))
alike_zeros s t = record { flatly = refl }

-- ---- functions of one and of two values
pub one : (g : Float → Float) → ((x : Float) → flat (g x) ≡ flat (g (flat x))) → {x y : Float} → Alike x y → Alike (g x) (g y)
one g h {x} {y} p = record { flatly = h x ∙ ap (λ (z : Float). flat (g z)) p.flatly ∙ sym (h y) }

both : (g : Float → Float → Float) → ((x y : Float) → flat (g x y) ≡ flat (g (flat x) (flat y))) → {x x' y y' : Float} → Alike x
    x' → Alike y y' → Alike (g x y) (g x' y')
both g h {x} {x'} {y} {y'} p q = record {
  flatly = h x y ∙ ap (λ (z : Float). flat (g z (flat y))) p.flatly ∙ ap
      (λ (z : Float). flat (g (flat x') z)) q.flatly ∙ sym (h x' y');
}

test : (g : Float → Float → Bool) → ((x y : Float) → g x y ≡ g (flat x) (flat y)) → {x x' y y' : Float} → Alike x x' → Alike y y' → g x y ≡ g x' y'
test g h {x} {x'} {y} {y'} p q = h x y ∙ ap (λ (z : Float). g z (flat y)) p.flatly ∙ ap (λ (z : Float). g (flat x') z) q.flatly ∙ sym (h x' y')

pub add_alike : (f : Format) {x x' y y' : Float} → Alike x x' → Alike y y' → Alike (add f x y) (add f x' y')
add_alike f p q = both (add f) (add-flat f) p q

pub sub_alike : (f : Format) {x x' y y' : Float} → Alike x x' → Alike y y' → Alike (sub f x y) (sub f x' y')
sub_alike f p q = both (sub f) (sub-flat f) p q

pub mul_alike : (f : Format) {x x' y y' : Float} → Alike x x' → Alike y y' → Alike (mul f x y) (mul f x' y')
mul_alike f p q = both (mul f) (mul-flat f) p q

pub neg_alike : {x y : Float} → Alike x y → Alike (neg x) (neg y)
neg_alike p = one neg neg-flat p

pub abs_alike : {x y : Float} → Alike x y → Alike (abs_of x) (abs_of y)
abs_alike p = one abs_of abs_flat p

zero_flat : (x : Float) → is_zero x ≡ is_zero (flat x)
zero_flat nan = refl
zero_flat (inf s) = refl
zero_flat (fin s zero e) = refl
zero_flat (fin s (suc m) e) = refl

pub zero_alike : {x y : Float} → Alike x y → is_zero x ≡ is_zero y
zero_alike {x} {y} p = zero_flat x ∙ ap is_zero p.flatly ∙ sym (zero_flat y)

-- a divisor that is not zero
pub div_alike : (f : Format) {x x' y y' : Float} → Alike x x' → Alike y y' → T (not (is_zero y)) → Alike (div f x y) (div f x' y')
div_alike f {x} {x'} {y} {y'} p q h =
    record {
      flatly = div-flat f x y h ∙ ap (λ (z : Float). flat (div f z (flat y))) p.flatly ∙ ap
          (λ (z : Float). flat (div f (flat x') z)) q.flatly ∙ sym
          (div-flat f x' y' (subst (λ (z : Bool). T (not z)) (zero_alike q) h));
    }

pub lt_alike : {x x' y y' : Float} → Alike x x' → Alike y y' → lt x y ≡ lt x' y'
lt_alike p q = test lt lt-flat p q

pub le_alike : {x x' y y' : Float} → Alike x x' → Alike y y' → le x y ≡ le x' y'
le_alike p q = test le le-flat p q

pub eq_alike : {x x' y y' : Float} → Alike x x' → Alike y y' → eq x y ≡ eq x' y'
eq_alike p q = test eq eq-flat p q

-- a zero that fits is +0.0 or -0.0
pub fits_zero : (f : Format) (s : Bool) (e : ℤ) → T (fits f (fin s zero e)) → e ≡ pos 0
unfolding fits
fits_zero f s (pos k) h = ap pos (none k (eqb→eq (2 ^ k * 1) 1 h))
  where
    none : (k : ℕ) → 2 ^ k * 1 ≡ 1 → k ≡ 0
    none zero h = refl
    none (suc k) h = let p = pow_pos k in let q = pow-succ' 2 k in let z : ⊥ = omega arith in absurd z
fits_zero f s (negsuc k) h = let q = eqb→eq (1 * 2 ^ suc k) 1 h in let p = pow_pos k in let r = pow-succ' 2 k in let z : ⊥ = omega arith in absurd z

nan-flat : (x : Float) → is_nan x ≡ is_nan (flat x)
unfolding is_nan
nan-flat nan = refl
nan-flat (inf s) = refl
nan-flat (fin s zero e) = refl
nan-flat (fin s (suc m) e) = refl

pub nan_alike : {x y : Float} → Alike x y → is_nan x ≡ is_nan y
nan_alike {x} {y} p = nan-flat x ∙ ap is_nan p.flatly ∙ sym (nan-flat y)

-- a choice by equal tests
pub pick_alike : {t t' : Bool} {x x' y y' : Float} → t ≡ t' → Alike x x' → Alike y y' → Alike (pick t x y) (pick t' x' y')
pick_alike {t} {t'} {x} {x'} {y} {y'} e p q = subst (λ (u : Bool). Alike (pick t x y) (pick u x' y')) e (go t)
  where
    go : (t : Bool) → Alike (pick t x y) (pick t x' y')
    go true = p
    go false = q

-- ---- running sums
pub sum_alike : (f : Format) (v w : ℕ → Float) (k : ℕ) {y z : Float} → Alike y z → ((j : ℕ) → j < k → Alike (v j) (w j)) → Alike
    (sum_from f y v k) (sum_from f z w k)
unfolding sum_from
sum_alike f v w zero p h = p
sum_alike f v w (suc k) p h = add_alike f (sum_alike f v w k p (λ j l. h j (le_trans l (le-suc k)))) (h k (lt-suc_self k))

-- the sums of doubles that the definitions name, from +0.0
pub sum-up_is : (v : ℕ → Float) (k : ℕ) → sum_to plus_zero v k ≡ sum_up binary64 v k
sum-up_is v k = ap (λ (z : Float). sum_from binary64 z v k) nought_is

-- ---- the functions of this crate
pub larger_alike : {x x' y y' : Float} → Alike x x' → Alike y y' → Alike (larger_of x y) (larger_of x' y')
unfolding larger_of
larger_alike p q = pick_alike (nan_alike p) q (pick_alike (lt_alike p q) q p)

pub smaller_alike : {x x' y y' : Float} → Alike x x' → Alike y y' → Alike (smaller_of x y) (smaller_of x' y')
unfolding smaller_of
smaller_alike p q = pick_alike (nan_alike p) q (pick_alike (lt_alike q p) q p)

pub clamp_alike : {x x' lo lo' hi hi' : Float} → Alike x x' → Alike lo lo' → Alike hi hi' → Alike (clamp_of x lo hi) (clamp_of x' lo' hi')
unfolding clamp_of
clamp_alike p l h = pick_alike (lt_alike p l) l (pick_alike (lt_alike h p) h p)

above_picks : (a b : Float) → above_of a b ≡ pick (is_nan a) (not (is_nan b)) (lt (abs_of b) (abs_of a))
unfolding above_of is_nan
above_picks nan b = refl
above_picks (inf s) b = refl
above_picks (fin s m e) b = refl

pub largest_alike : (v w : ℕ → Float) (k : ℕ) → ((j : ℕ) → j < k → Alike (v j) (w j)) → Alike (largest_to v k) (largest_to w k)
unfolding largest_to
largest_alike v w zero h = alike_zeros false false
largest_alike v w (suc k) h = larger_alike (largest_alike v w k (λ j l. h j (le_trans l (le-suc k)))) (h k (lt-suc_self k))
