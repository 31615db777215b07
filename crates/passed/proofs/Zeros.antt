-- A zero over a sum that is above 0 and finite is a zero, however the zero and the sum are written.
use borrow.Author.Tests.{ne_eqb}
use Prim.Native.Nat.{ℕ, zero, suc, ◌*◌}
use mathlib.Core.Path.{◌≡◌, refl, sym, ap, ◌∙◌, subst}
use mathlib.Core.Bool.{Bool, true, false, not, ◌&&◌}
use native.Mathlib.Nat.{mul-pos, zero-lt-suc}
use native.Mathlib.Omega.{arith}
use lib.IntN.{ℤ, pos}
use lib.Dec.{T}
use lib.Ieee.{Float, nan, inf, fin, Format, binary64, round, div, lt, ne, below, up, down, unlike}
use lib.Ieee.Fits.{up_pos, down_pos}
use lib.Ieee.Scale.{finite}
use Rattle.seq.specs.Sums.{plus_zero}
use Rattle.ieee.specs.Flat.{is_zero}
use Rattle.ieee.proofs.Flat.{round_zero}
use Rattle.ieee.proofs.Ops.{unlike_false}
use Rattle.ieee.proofs.Signs.{nought, nought_is}
use Rattle.ieee.proofs.Zeros.{nonzero_not_zero}
use Rattle.weights.specs.Weights.{sound}

-- 0 is not above 0
not_above : (t : Bool) (a b : ℕ) → a ≡ 0 → b ≡ 0 → below false a t b ≡ false
not_above true a b h k = refl
not_above false a b h k = rw (h, k)

none_times : (a b : ℕ) → 0 * a * b ≡ 0
none_times a b = omega arith

-- it keeps its sign
pub zero_over_is : (f : Format) (s : Bool) (e : ℤ) (d : Float) → T (lt nought d) → T (finite d) → div f (fin s zero e) d ≡ fin s zero (pos 0)
unfolding div lt
zero_over_is f s e nan p q = absurd q
zero_over_is f s e (inf t) p q = absurd q
zero_over_is f s e (fin true n i) p q = absurd p
zero_over_is f s e (fin false zero i) p q = absurd (subst T (not_above false (0 * 1 * down i) (0 * up i * 1) (none_times 1 (down i)) (none_times (up i) 1)) p)
zero_over_is f s e (fin false (suc n) i) p q =
    rw (ne_eqb (suc n) 0 (λ e. omega arith))
    (ap (λ (a : ℕ). round f (unlike s false) a (suc n * up i * down e)) (none_times (up e) (down i))
    ∙ round_zero f (unlike s false) (suc n * up i * down e) (mul-pos (mul-pos (zero-lt-suc n) (up_pos i)) (down_pos e))
    ∙ ap (λ (t : Bool). fin t zero (pos 0)) (unlike_false s))

pub zero_over : (f : Format) (x d : Float) → T (is_zero x) → T (lt nought d) → T (finite d) → T (is_zero (div f x d))
zero_over f nan d h p q = absurd h
zero_over f (inf s) d h p q = absurd h
zero_over f (fin s (suc m) e) d h p q = absurd h
zero_over f (fin s zero e) d h p q = subst (λ (v : Float). T (is_zero v)) (sym (zero_over_is f s e d p q)) tt

-- the two parts of a sound sum
pub sound-above : (d : Float) → sound d ≡ true → T (lt nought d)
sound-above d h = go (lt plus_zero d) refl h
  where
    go : (t : Bool) → lt plus_zero d ≡ t → t && finite d ≡ true → T (lt nought d)
    go true e k = subst T (sym (sym (ap (λ (v : Float). lt v d) nought_is) ∙ e)) tt
    go false e k = absurd (subst T (sym k) tt)

pub sound-finite : (d : Float) → sound d ≡ true → T (finite d)
sound-finite d h = go (lt plus_zero d) h
  where
    go : (t : Bool) → t && finite d ≡ true → T (finite d)
    go true k = subst T (sym k) tt
    go false k = absurd (subst T (sym k) tt)

pub positive-sound : (d : Float) → T (lt nought d) → T (finite d) → sound d ≡ true
positive-sound d a f = go (lt plus_zero d) (finite d) (subst T (ap (λ (v : Float). lt v d) (sym nought_is)) a) f
  where
    go : (s t : Bool) → T s → T t → s && t ≡ true
    go true true k l = refl
    go true false k l = absurd l
    go false t k l = absurd k

pub off_zero : (x : Float) → ne x plus_zero ≡ false → T (is_zero x)
off_zero x h = go (is_zero x) (sym (nonzero_not_zero x) ∙ ap (ne x) (sym nought_is) ∙ h)
  where
    go : (t : Bool) → not t ≡ false → T t
    go true e = tt
    go false e = subst T e tt

zero_off : (x : Float) → T (is_zero x) → ne x plus_zero ≡ false
zero_off x h = ap (ne x) nought_is ∙ nonzero_not_zero x ∙ go (is_zero x) h
  where
    go : (t : Bool) → T t → not t ≡ false
    go true e = refl
    go false e = absurd e

pub off_over : (x d : Float) → ne x plus_zero ≡ false → sound d ≡ true → ne (div binary64 x d) plus_zero ≡ false
off_over x d h s = zero_off (div binary64 x d) (zero_over binary64 x d (off_zero x h) (sound-above d s) (sound-finite d s))

-- +0.0 is a zero
pub plus_zero_off : ne plus_zero plus_zero ≡ false
plus_zero_off = zero_off plus_zero (subst (λ (v : Float). T (is_zero v)) (sym nought_is) tt)
