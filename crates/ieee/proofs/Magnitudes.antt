-- What the tests of the small functions say of a value: each way through their code gives what the definition gives.
use mathlib.Core.Path.{◌≡◌, refl, sym, ap, ◌∙◌, subst}
use Prim.Native.Nat.{ℕ, zero, suc, ◌*◌, ◌<◌}
use native.Mathlib.Nat.{zero-lt-suc, mul-pos}
use native.Mathlib.Omega.{arith}
use mathlib.Core.Bool.{Bool, true, false, not, ◌&&◌, ◌||◌, beq, true≢false, false≢true}
use lib.IntN.{ℤ, pos}
use lib.Dec.{T, ltb, eqb, lt→ltb, eqb_refl}
use lib.Ieee.{Float, nan, inf, fin, binary64, up, down, sub, add, neg, lt, eq, fits, is_nan, of_bits}
use lib.Ieee.Fits.{up_pos, down_pos, neg-fits}
use lib.Ieee.Bits.{is_true, is_false}
use Rattle.seq.specs.Choice.{pick}
use Rattle.ieee.specs.Constants.{one, minus_one}
use Rattle.ieee.specs.Magnitude.{abs_of, above_of}
use Rattle.ieee.proofs.Signs.{nought, nought_is}
use Rattle.ieee.proofs.Flat.{add_commutes, zero_times}
use Rattle.ieee.proofs.Alikes.{fits_zero}
use Rattle.ieee.proofs.Zeros.{plus_zero_lem}

-- ---- x == x
same : (s : Bool) → beq s s ≡ true
same true = refl
same false = refl

even : (s : Bool) (n : ℕ) → eqb n n && (beq s s || eqb n 0) ≡ true
even true n = rw (is_true (eqb n n) (eqb_refl n))
even false n = rw (is_true (eqb n n) (eqb_refl n))

pub number_self : (x : Float) → eq x x ≡ not (is_nan x)
unfolding eq is_nan
number_self nan = refl
number_self (inf s) = same s
number_self (fin s m e) = even s (m * up e * down e)

pub no_nan_self : (x : Float) → eq x x ≡ true → T (not (is_nan x))
no_nan_self x h = subst T (sym h ∙ number_self x) tt

pub nan_self : (x : Float) → eq x x ≡ false → x ≡ nan
unfolding is_nan
nan_self nan h = refl
nan_self (inf s) h = absurd (true≢false (sym (number_self (inf s)) ∙ h))
nan_self (fin s m e) h = absurd (true≢false (sym (number_self (fin s m e)) ∙ h))

-- ---- a choice that skips a NaN
pub chosen-second : (x y : Float) (t : Bool) → t ≡ true → y ≡ pick (is_nan x) y (pick t y x)
chosen-second x y t h = rw h (go (is_nan x))
  where
    go : (b : Bool) → y ≡ pick b y y
    go true = refl
    go false = refl

pub chosen-first : (x y : Float) (t : Bool) → t ≡ false → eq x x ≡ true → x ≡ pick (is_nan x) y (pick t y x)
chosen-first x y t h k = rw (h, is_false (is_nan x) (no_nan_self x k))

pub nan_skipped : (x y : Float) (t : Bool) → eq x x ≡ false → y ≡ pick (is_nan x) y (pick t y x)
unfolding is_nan
nan_skipped x y t h = rw (nan_self x h)

-- ---- x where it is above 0.0, and 0.0 - x elsewhere
turned_zero : (s : Bool) → sub binary64 nought (fin s 0 (pos 0)) ≡ nought
unfolding sub add neg
turned_zero true = refl
turned_zero false = refl

turned-fin : (s : Bool) (m : ℕ) (e : ℤ) → T (fits binary64 (fin s (suc m) e)) → sub binary64 nought (fin s (suc m) e) ≡ fin (not s) (suc m) e
unfolding sub neg
turned-fin s m e h = add_commutes binary64 nought (fin (not s) (suc m) e) ∙ plus_zero_lem binary64 (fin (not s) (suc m) e) false
    (neg-fits binary64 (fin s (suc m) e) h) tt

above_zero : (s : Bool) (m : ℕ) (e : ℤ) → pick (lt nought (fin s (suc m) e)) (fin s (suc m) e) (fin (not s) (suc m) e) ≡ fin false (suc m) e
unfolding lt
above_zero true m e = refl
above_zero false m e =
    let p : 0 < suc m * up e * down (pos 0) = mul-pos (mul-pos (zero-lt-suc m) (up_pos e)) (down_pos (pos 0)) in
    rw (is_true (ltb (0 * up (pos 0) * down e) (suc m * up e * down (pos 0)))
    (lt→ltb (0 * up (pos 0) * down e) (suc m * up e * down (pos 0)) (omega (arith, p, zero_times (up (pos 0)) (down e)))))

abs_law : (x : Float) → T (fits binary64 x) → pick (lt nought x) x (sub binary64 nought x) ≡ abs_of x
abs_law nan h = unfold lt sub add neg in refl
abs_law (inf true) h = unfold lt sub add neg in refl
abs_law (inf false) h = unfold lt sub add neg in refl
abs_law (fin s zero e) h = rw (fits_zero binary64 s e h, turned_zero s) (none s)
  where
    none : (s : Bool) → pick (lt nought (fin s 0 (pos 0))) (fin s 0 (pos 0)) nought ≡ nought
    none true = unfold lt in refl
    none false = unfold lt in refl
abs_law (fin s (suc m) e) h = rw (turned-fin s m e h) (above_zero s m e)

pub abs_kept : (x : Float) → T (fits binary64 x) → lt (of_bits binary64 0) x ≡ true → x ≡ abs_of x
abs_kept x h t = sym (ap (λ (b : Bool). pick b x (sub binary64 nought x)) (rw nought_is at t)) ∙ abs_law x h

pub abs_turned : (x : Float) → T (fits binary64 x) → lt (of_bits binary64 0) x ≡ false → sub binary64 (of_bits binary64 0) x ≡ abs_of x
abs_turned x h t = rw nought_is (sym (ap (λ (b : Bool). pick b x (sub binary64 nought x)) (rw nought_is at t)) ∙ abs_law x h)

-- -1.0 as the code has it
pub minus_one_lem : neg one ≡ minus_one
unfolding of_bits neg
minus_one_lem = refl

-- ---- the order by magnitude
pub above_number : (a b : Float) → eq a a ≡ true → lt (abs_of b) (abs_of a) ≡ above_of a b
unfolding above_of
above_number nan b h = absurd (unfold eq in false≢true h)
above_number (inf s) b h = refl
above_number (fin s m e) b h = refl

pub above-nan : (a b : Float) → eq a a ≡ false → eq b b ≡ above_of a b
unfolding above_of
above-nan a b h = rw (nan_self a h) (number_self b)
