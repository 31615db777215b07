-- What the comparisons with zero say of a value and of its bit pattern.
use Prim.Native.Nat.{ℕ, zero, suc, ◌+◌, ◌*◌, ◌/◌, ◌%◌, ◌^◌, ◌≤◌, ◌<◌}
use native.Mathlib.Nat.{zero-lt-suc, mul-pos, zero-mul}
use native.Mathlib.Omega.{arith}
use mathlib.Core.Path.{◌≡◌, refl, sym, ap, ◌∙◌, subst}
use mathlib.Core.Bool.{Bool, beq, true, false, not, ◌&&◌, ◌||◌, cond, true≢false, false≢true}
use lib.Dec.{T, ltb, leb, eqb, nltb→le, nleb→lt, eqb→eq}
use lib.Arith.{le→nltb}
use lib.IntN.{ℤ, pos}
use lib.Ieee.{Float, nan, inf, fin, binary64, up, down, odd, lt, eq, fits, is_nan, of_fields, of_bits, to_bits, nan_bits}
use lib.Ieee.Fits.{up_pos, and_l}
use lib.Ieee.Bits.{of_bits-to_bits, nan_bits_is, nan_bits_above}
use Rattle.root.specs.Root.{sqrt_of}

-- ---- above zero
pub no_nan : (x : Float) → lt (fin false 0 (pos 0)) x ≡ true → T (not (is_nan x))
unfolding lt is_nan
no_nan nan h = absurd (false≢true h)
no_nan (inf s) h = tt
no_nan (fin s m e) h = tt

odd-neg : (d q k l : ℕ) → lt (fin false 0 (pos 0)) (odd d true q k l) ≡ false
unfolding lt odd
odd-neg d zero k l = refl
odd-neg d (suc q) k l = refl

cond-neg : (a b : Bool) (v : Float) → lt (fin false 0 (pos 0)) v ≡ false → lt (fin false 0 (pos 0)) (cond a (cond b (inf true) nan) v) ≡ false
unfolding lt
cond-neg true true v h = refl
cond-neg true false v h = refl
cond-neg false b v h = h

fields_neg : (x t : ℕ) → lt (fin false 0 (pos 0)) (of_fields binary64 true x t) ≡ false
unfolding of_fields
fields_neg zero t = odd-neg 53 t 0 1074
fields_neg (suc x) t = cond-neg (eqb (suc x) 2047) (eqb t 0) (odd 53 true (2 ^ 52 + t) x 1074) (odd-neg 53 (2 ^ 52 + t) x 1074)

no_sign : (b : ℕ) → lt (fin false 0 (pos 0)) (of_bits binary64 b) ≡ true → b < 2 ^ 63
unfolding of_bits
no_sign b h = go (leb (2 ^ 63) b) (nleb→lt (2 ^ 63) b) h
  where
    go : (s : Bool) → (T (not s) → b < 2 ^ 63) → lt (fin false 0 (pos 0)) (of_fields binary64 s (b % 2 ^ 63 / 2 ^ 52) (b % 2 ^ 52)) ≡ true → b < 2 ^ 63
    go false l h = l tt
    go true l h = absurd (false≢true (sym (fields_neg (b % 2 ^ 63 / 2 ^ 52) (b % 2 ^ 52)) ∙ h))

no_zero : (b : ℕ) → lt (fin false 0 (pos 0)) (of_bits binary64 b) ≡ true → 0 < b
unfolding lt of_bits
no_zero zero h = absurd (false≢true h)
no_zero (suc b) h = zero-lt-suc b

false_le : (a b : ℕ) → ltb a b ≡ false → b ≤ a
false_le a b e = nltb→le a b (subst (λ (t : Bool). T (not t)) (sym e) tt)

not_true : (b : Bool) → T (not b) → b ≡ false
not_true true t = absurd t
not_true false t = refl

no_more : (b : ℕ) → b < 2 ^ 63 → T (not (is_nan (of_bits binary64 b))) → b ≤ 0x7ff0_0000_0000_0000
no_more b h n =
    let e : ltb 0x7ff0_0000_0000_0000 (b % 2 ^ 63) ≡ false = sym (nan_bits_above binary64 b) ∙ nan_bits_is binary64 b ∙ not_true (is_nan (of_bits binary64 b)) n in
    let l = false_le 0x7ff0_0000_0000_0000 (b % 2 ^ 63) e in
    omega arith

pub record Above (b : ℕ) : Type 0 where
  pub some : 0 < b
  pub most : b ≤ 0x7ff0_0000_0000_0000

above_at : (b : ℕ) → lt (fin false 0 (pos 0)) (of_bits binary64 b) ≡ true → Above b
above_at b h = record { some = no_zero b h; most = no_more b (no_sign b h) (no_nan (of_bits binary64 b) h) }

pub above_of : (x : Float) → T (fits binary64 x) → lt (fin false 0 (pos 0)) x ≡ true → Above (to_bits binary64 x)
above_of x f h = above_at (to_bits binary64 x) (rw (of_bits-to_bits binary64 x f) h)

pub no_nan_bits : (b : ℕ) → b < 0x7ff0_0000_0000_0000 → T (not (nan_bits binary64 b))
no_nan_bits b h = rw (nan_bits_above binary64 b) (le→nltb 0x7ff0_0000_0000_0000 (b % 2 ^ 63) (omega arith))

-- ---- the infinity
inf_is : of_bits binary64 0x7ff0_0000_0000_0000 ≡ inf false
unfolding of_bits
inf_is = refl

pub inf_of : (x : Float) → T (fits binary64 x) → to_bits binary64 x ≡ 0x7ff0_0000_0000_0000 → x ≡ sqrt_of x
unfolding sqrt_of
inf_of x f e =
    let i : x ≡ inf false = sym (of_bits-to_bits binary64 x f) ∙ ap (of_bits binary64) e ∙ inf_is in
    rw i

-- ---- zero, and what is below it
and_true : (a b : ℕ) (c : Bool) → (eqb a b && c) ≡ true → a ≡ b
and_true a b c h = eqb→eq a b (and_l (eqb a b) c (subst T (sym h) tt))

both_zero : (c : Bool) (a b : ℕ) → a ≡ 0 → b ≡ 0 → (eqb a b && (c || eqb a 0)) ≡ true
both_zero true a b p q = rw (p, q)
both_zero false a b p q = rw (p, q)

magnitude : (m : ℕ) (e : ℤ) → 0 < suc m * up e
magnitude m e = mul-pos (zero-lt-suc m) (up_pos e)

pub zero_root : (x : Float) → eq x (fin false 0 (pos 0)) ≡ true → x ≡ sqrt_of x
unfolding eq sqrt_of
zero_root nan h = absurd (false≢true h)
zero_root (inf s) h = absurd (false≢true h)
zero_root (fin s zero e) h = refl
zero_root (fin s (suc m) e) h = absurd (let p = magnitude m e in let q : suc m * up e * 1 ≡ 0 * down e = and_true _ _ _ h in omega arith)

pub rest_root : (x : Float) → lt (fin false 0 (pos 0)) x ≡ false → eq x (fin false 0 (pos 0)) ≡ false → nan ≡ sqrt_of x
unfolding lt eq sqrt_of
rest_root nan h k = refl
rest_root (inf false) h k = absurd (true≢false h)
rest_root (inf true) h k = refl
rest_root (fin s zero e) h k = absurd (true≢false (sym (both_zero (beq s false) _ _ (ap (λ (z : ℕ). z * 1) (zero-mul (up e))) (zero-mul (down e))) ∙ k))
rest_root (fin true (suc m) e) h k = refl
rest_root (fin false (suc m) e) h k = absurd (let p = magnitude m e in let q : suc m * up e * 1 ≤ 0 * down e = false_le _ _ h in omega arith)
