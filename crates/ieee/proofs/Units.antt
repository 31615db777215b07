-- A value that the format holds is its sign and a whole number of units: the two say which value it is, and how it compares.
use mathlib.Core.Path.{◌≡◌, refl, sym, ap, ◌∙◌, subst}
use Prim.Native.Nat.{ℕ, zero, suc, ◌+◌, ◌-◌, ◌*◌, ◌/◌, ◌%◌, ◌^◌, ◌≤◌, ◌<◌, zero-le}
use native.Mathlib.Nat.{le_refl, le_trans, le_of_eq, le_of_lt, lt_of_le_of_lt, lt_of_lt_of_le, lt_irrefl, not-le_of_lt, zero-mul, mul-one}
use native.Mathlib.Nat.{mul_comm, mul_assoc, mul_right_comm, mul-lt-mul_of_pos_right, lt_of_mul-lt-mul_right, mul-pos, mul-div_cancel}
use native.Mathlib.Nat.{eq_of_mul-eq-mul_right}
use native.Mathlib.Omega.{arith}
use mathlib.Core.Bool.{Bool, true, false, not, ◌&&◌, cond}
use lib.IntN.{ℤ, pos, negsuc}
use lib.Dec.{T, leb, ltb, eqb, leb→le, nleb→lt, ltb→lt, lt→ltb, eqb→eq, lit<}
use lib.Pow.{pow-add, pow_pos, pow-lt}
use lib.Ieee.{binary32, binary64, Float, nan, inf, fin, Format, prec, emax, low, up, down, below, fits, to_bits, of_bits, top, hid, size}
use lib.Ieee.Digits.{back}
use lib.Ieee.Fits.{and_l, and_r, up_pos, down_pos, eq→eqb}
use lib.Ieee.Bits.{of_bits-to_bits}
use lib.Ieee.Scale.{grid, overflow}
use Rattle.ieee.specs.Units.{sign, mag, is_num}
use Rattle.ieee.proofs.Grid.{grid-exact}

-- ---- what fitting says of fin s m e
pub record Fit (f : Format) (m : ℕ) (e : ℤ) : Type 0 where
  pub few : m < 2 ^ prec f
  pub fine : down e ≤ 2 ^ low f
  pub reach : m * up e < 2 ^ suc (emax f) * down e

one_of : (a b : ℕ) → a * b ≡ 1 → 0 < a → b ≤ 1
one_of zero b h p = absurd (lt_irrefl 0 p)
one_of (suc a) b h p = let q : a * b + b ≡ 1 = omega arith in omega arith

pub fit : (f : Format) (s : Bool) (m : ℕ) (e : ℤ) → T (fits f (fin s m e)) → Fit f m e
unfolding fits
fit f s zero e t =
    record {
      few = pow_pos (prec f);
      fine = le_trans (one_of (up e) (down e) (eqb→eq (up e * down e) 1 t) (up_pos e)) (pow_pos (low f));
      reach = lt_of_le_of_lt (le_of_eq (zero-mul (up e))) (mul-pos (pow_pos (suc (emax f))) (down_pos e));
    }
fit f s (suc m) e t =
    let a : Bool = eqb (suc m % 2) 1 in
    let b : Bool = ltb (suc m) (2 ^ prec f) in
    let c : Bool = leb (down e) (2 ^ low f) in
    let d : Bool = ltb (suc m * up e) (2 ^ suc (emax f) * down e) in
    record {
      few = ltb→lt (suc m) (2 ^ prec f) (and_r a b (and_l (a && b) c (and_l (a && b && c) d t)));
      fine = leb→le (down e) (2 ^ low f) (and_r (a && b) c (and_l (a && b && c) d t));
      reach = ltb→lt (suc m * up e) (2 ^ suc (emax f) * down e) (and_r (a && b && c) d t);
    }

-- ---- its units: m * 2 ^ j of them
pub record Whole (f : Format) (m : ℕ) (e : ℤ) : Type 0 where
  pub shift : ℕ
  pub is : m * up e * 2 ^ low f ≡ m * 2 ^ shift * down e

pub exponent : (a b : ℕ) → 2 ^ a ≤ 2 ^ b → a ≤ b
exponent a b h = go (leb a b) (leb→le a b) (nleb→lt a b)
  where
    go : (t : Bool) → (T t → a ≤ b) → (T (not t) → b < a) → a ≤ b
    go true p q = p tt
    go false p q = absurd (not-le_of_lt (pow-lt (q tt)) h)

whole : (f : Format) (m : ℕ) (e : ℤ) → down e ≤ 2 ^ low f → Whole f m e
whole f m (pos k) h = record {
  shift = k + low f;
  is = mul_assoc m (2 ^ k) (2 ^ low f) ∙ ap (λ (z : ℕ). m * z) (sym (pow-add 2 k (low f))) ∙ sym (mul-one (m * 2 ^ (k + low f)));
}
whole f m (negsuc k) h =
    let j = low f - suc k in
    let e : 2 ^ low f ≡ 2 ^ j * 2 ^ suc k = ap (λ (z : ℕ). 2 ^ z) (sym (back (low f) (suc k) (exponent (suc k) (low f) h))) ∙ pow-add 2 j (suc k) in
    record { shift = j; is = ap (λ (z : ℕ). z * 2 ^ low f) (mul-one m) ∙ ap (λ (z : ℕ). m * z) e ∙ sym (mul_assoc m (2 ^ j) (2 ^ suc k)) }

pub record Units (f : Format) (m : ℕ) (e : ℤ) (n : ℕ) : Type 0 where
  pub digits : ℕ
  pub place : ℕ
  pub form : n ≡ digits * 2 ^ place
  pub few_digits : digits < 2 ^ prec f
  pub cross : m * up e * 2 ^ low f ≡ n * down e
  pub inside : n < overflow f

pub units : (f : Format) (s : Bool) (m : ℕ) (e : ℤ) → T (fits f (fin s m e)) → Units f m e (mag f (fin s m e))
units f s m e t =
    let h = fit f s m e t in
    let w = whole f m e h.fine in
    let n = m * 2 ^ w.shift in
    let is : m * up e * 2 ^ low f / down e ≡ n = ap (λ (z : ℕ). z / down e) w.is ∙ mul-div_cancel n (down_pos e) in
    let i : n * down e < overflow f * down e =
    lt_of_le_of_lt (le_of_eq (sym w.is))
    (lt_of_lt_of_le (mul-lt-mul_of_pos_right h.reach (pow_pos (low f)))
    (le_of_eq (mul_right_comm (2 ^ suc (emax f)) (down e) (2 ^ low f) ∙ ap (λ (z : ℕ). z * down e)
    (mul_comm (2 ^ suc (emax f)) (2 ^ low f) ∙ sym (pow-add 2 (low f) (suc (emax f))))))) in
    record {
      digits = m;
      place = w.shift;
      form = is;
      few_digits = h.few;
      cross = w.is ∙ ap (λ (z : ℕ). z * down e) (sym is);
      inside = lt_of_le_of_lt (le_of_eq is) (lt_of_mul-lt-mul_right (down e) i);
    }

-- ---- a value of the format is not changed by rounding
pub grid_fixed : (f : Format) (s : Bool) (m : ℕ) (e : ℤ) → T (fits f (fin s m e)) → grid f (mag f (fin s m e)) (2 ^ low f) ≡ mag f (fin s m e)
grid_fixed f s m e t =
    let u = units f s m e t in
    let n = mag f (fin s m e) in
    grid-exact f n (2 ^ low f) u.digits u.place (pow_pos (low f)) u.few_digits
    (subst (λ (z : ℕ). z < overflow f) u.form u.inside) (ap (λ (z : ℕ). z * 2 ^ low f) u.form)
    ∙ sym u.form

pub mag-le : (f : Format) (x : Float) → T (fits f x) → mag f x ≤ overflow f
mag-le f nan t = zero-le
mag-le f (inf s) t = le_refl (overflow f)
mag-le f (fin s m e) t = le_of_lt (units f s m e t).inside

-- ---- the sign and the units say which value it is
bits_same : (f : Format) (s : Bool) (m : ℕ) (e : ℤ) (n : ℕ) (d : ℤ) → mag f (fin s m e) ≡ mag f (fin s n d) → to_bits f (fin s m e) ≡ to_bits f (fin s n d)
unfolding to_bits
bits_same f s m e n d h = ap (λ (z : ℕ). cond s (top f) 0 + (size z - prec f) * hid f + z / 2 ^ (size z - prec f)) h

not_inside : (n o : ℕ) → n < o → o ≡ n → ⊥
not_inside n o h e = omega arith

pub unique : (f : Format) (x y : Float) → T (fits f x) → T (fits f y) → T (is_num x) → T (is_num y) → sign x ≡ sign y → mag f x ≡ mag f y → x ≡ y
unique f nan y p q a b e h = absurd a
unique f (inf s) nan p q a b e h = absurd b
unique f (inf s) (inf t) p q a b e h = ap inf e
unique f (inf s) (fin t n d) p q a b e h = absurd (not_inside (mag f (fin t n d)) (overflow f) (units f t n d q).inside h)
unique f (fin s m e) nan p q a b c h = absurd b
unique f (fin s m e) (inf t) p q a b c h = absurd (not_inside (mag f (fin s m e)) (overflow f) (units f s m e p).inside (sym h))
unique f (fin s m e) (fin t n d) p q a b c h =
    let k : fin t m e ≡ fin s m e = ap (λ (z : Bool). fin z m e) (sym c) in
    sym k ∙ (sym (of_bits-to_bits f (fin t m e) (subst (λ (z : Float). T (fits f z)) (sym k) p)) ∙
    (ap (of_bits f) (bits_same f t m e n d h) ∙ of_bits-to_bits f (fin t n d) q))

-- ---- the order: a NaN apart, each value has a rank, and values compare as their ranks do
abbrev pub rank_of : Format → Bool → ℕ → ℕ
rank_of f s n = cond s (overflow f - n) (overflow f + n)

abbrev pub rank : Format → Float → ℕ
rank f x = rank_of f (sign x) (mag f x)

pub iff : (a b : Bool) → (T a → T b) → (T b → T a) → a ≡ b
iff true true p q = refl
iff true false p q = absurd (p tt)
iff false true p q = absurd (q tt)
iff false false p q = refl

-- fractions a / c and b / d of units
scaled-lt : (a b c d x y K : ℕ) → 0 < K → 0 < c → 0 < d → a * K ≡ x * c → b * K ≡ y * d → a * d < b * c → x < y
scaled-lt a b c d x y K k C D p q h =
    lt_of_mul-lt-mul_right (c * d)
    (let l : x * (c * d) ≡ a * d * K = sym (mul_assoc x c d) ∙ ap (λ (z : ℕ). z * d) (sym p) ∙ mul_right_comm a K d in
    let r : y * (c * d) ≡ b * c * K = ap (λ (z : ℕ). y * z) (mul_comm c d) ∙ sym (mul_assoc y d c) ∙ ap (λ (z : ℕ). z * c) (sym q) ∙ mul_right_comm b K c in
    lt_of_le_of_lt (le_of_eq l) (lt_of_lt_of_le (mul-lt-mul_of_pos_right h k) (le_of_eq (sym r))))

scaled-eq : (a b c d x y K : ℕ) → 0 < K → 0 < c → 0 < d → a * K ≡ x * c → b * K ≡ y * d → a * d ≡ b * c → x ≡ y
scaled-eq a b c d x y K k C D p q h =
    eq_of_mul-eq-mul_right (c * d) (mul-pos C D) x y
    (sym (mul_assoc x c d) ∙ ap (λ (z : ℕ). z * d) (sym p) ∙ mul_right_comm a K d ∙ ap (λ (z : ℕ). z * K) h ∙ sym
    (ap (λ (z : ℕ). y * z) (mul_comm c d) ∙ sym (mul_assoc y d c) ∙ ap (λ (z : ℕ). z * c) (sym q) ∙ mul_right_comm b K c))

-- and back
scaled_lt' : (a b c d x y K : ℕ) → 0 < K → 0 < c → 0 < d → a * K ≡ x * c → b * K ≡ y * d → x < y → a * d < b * c
scaled_lt' a b c d x y K k C D p q h =
    lt_of_mul-lt-mul_right K
    (let l : x * (c * d) ≡ a * d * K = sym (mul_assoc x c d) ∙ ap (λ (z : ℕ). z * d) (sym p) ∙ mul_right_comm a K d in
    let r : y * (c * d) ≡ b * c * K = ap (λ (z : ℕ). y * z) (mul_comm c d) ∙ sym (mul_assoc y d c) ∙ ap (λ (z : ℕ). z * c) (sym q) ∙ mul_right_comm b K c in
    lt_of_le_of_lt (le_of_eq (sym l)) (lt_of_lt_of_le (mul-lt-mul_of_pos_right h (mul-pos C D)) (le_of_eq r)))

scaled_eq' : (a b c d x y K : ℕ) → 0 < K → a * K ≡ x * c → b * K ≡ y * d → x ≡ y → a * d ≡ b * c
scaled_eq' a b c d x y K k p q h =
    eq_of_mul-eq-mul_right K k (a * d) (b * c)
    (mul_right_comm a d K ∙ ap (λ (z : ℕ). z * d) p ∙ mul_assoc x c d ∙ ap (λ (z : ℕ). z * (c * d)) h ∙
    (ap (λ (z : ℕ). y * z) (mul_comm c d) ∙ sym (mul_assoc y d c) ∙ ap (λ (z : ℕ). z * c) (sym q) ∙ mul_right_comm b K c))

-- comparisons of a * d and b * c as those of x and y
module _ (a b c d x y K : ℕ) (k : 0 < K) (C : 0 < c) (D : 0 < d) (p : a * K ≡ x * c) (q : b * K ≡ y * d) where
  pub ltb_is : ltb (a * d) (b * c) ≡ ltb x y
  ltb_is = iff (ltb (a * d) (b * c)) (ltb x y) (λ t. lt→ltb x y (scaled-lt a b c d x y K k C D p q (ltb→lt (a * d) (b * c) t)))
      (λ t. lt→ltb (a * d) (b * c) (scaled_lt' a b c d x y K k C D p q (ltb→lt x y t)))

  pub eqb_is : eqb (a * d) (b * c) ≡ eqb x y
  eqb_is = iff (eqb (a * d) (b * c)) (eqb x y) (λ t. eq→eqb (scaled-eq a b c d x y K k C D p q (eqb→eq (a * d) (b * c) t)))
      (λ t. eq→eqb (scaled_eq' a b c d x y K k p q (eqb→eq x y t)))

pub below-rank : (o : ℕ) (s t : Bool) (x y : ℕ) → x ≤ o → y ≤ o → below s x t y ≡ ltb (cond s (o - x) (o + x)) (cond t (o - y) (o + y))
below-rank o false false x y h k = iff (ltb x y) (ltb (o + x) (o + y))
    (λ t. lt→ltb (o + x) (o + y) (let l : x < y = ltb→lt x y t in omega arith))
    (λ t. lt→ltb x y (let l : o + x < o + y = ltb→lt (o + x) (o + y) t in omega arith))
below-rank o false true x y h k = iff false (ltb (o + x) (o - y)) (λ t. absurd t)
    (λ t. absurd (let l : o + x < o - y = ltb→lt (o + x) (o - y) t in let z : ⊥ = omega arith in z))
below-rank o true false x y h k = iff (ltb 0 (x + y)) (ltb (o - x) (o + y))
    (λ t. lt→ltb (o - x) (o + y) (let l : 0 < x + y = ltb→lt 0 (x + y) t in omega arith))
    (λ t. lt→ltb 0 (x + y) (let l : o - x < o + y = ltb→lt (o - x) (o + y) t in omega arith))
below-rank o true true x y h k = iff (ltb y x) (ltb (o - x) (o - y))
    (λ t. lt→ltb (o - x) (o - y) (let l : y < x = ltb→lt y x t in omega arith))
    (λ t. lt→ltb y x (let l : o - x < o - y = ltb→lt (o - x) (o - y) t in omega arith))

-- ---- what both formats have room for
pub exponents_room : (f : Format) → 10 < suc (emax f)
exponents_room binary32 = lit< tt
exponents_room binary64 = lit< tt

pub digits_room : (f : Format) → 9 < prec f
digits_room binary32 = lit< tt
digits_room binary64 = lit< tt
