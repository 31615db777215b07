-- What doubling, zeroing and dividing by a sum do to a value's sign, and to its being zero.
use mathlib.Core.Path.{◌≡◌, refl, sym, ap, ◌∙◌, subst}
use Prim.Native.Nat.{ℕ, suc, ◌+◌, ◌-◌, ◌*◌, ◌/◌, ◌^◌, ◌≤◌, ◌<◌, min}
use native.Mathlib.Nat.{le_trans, le_of_eq, lt_of_le_of_lt, lt_of_lt_of_le, zero-mul, zero-div, mul-one, one-mul, eq-zero-or-pos, lt_irrefl, add-zero}
use native.Mathlib.Omega.{arith}
use mathlib.Core.Logic.{◌⊎◌, inl, inr}
use mathlib.Core.Bool.{Bool, true, false, not, ◌&&◌, ◌||◌, beq}
use lib.IntN.{pos}
use lib.Dec.{T, ltb, eqb, ltb→lt, lt→ltb, eqb→eq}
use lib.Pow.{pow_pos, pow-add, pow_mono, pow-lt}
use lib.Ieee.{Float, fin, Format, binary64, emax, low, mul, div, lt, ne, fits, level, below, of_bits}
use lib.Ieee.Fits.{mul-fits, div-fits}
use lib.Ieee.Scale.{grid, overflow}
use Rattle.ieee.specs.Units.{sign, mag, is_num}
use Rattle.ieee.proofs.Grid.{grid-le, grid-exact}
use Rattle.ieee.proofs.Units.{iff}
use Rattle.ieee.proofs.Ranks.{Number, eq_is, lt_is}
use Rattle.ieee.proofs.Ops.{one_few, under_cap, at_least, Finite, finite_number, finite_inside, inside_finite, grid_zero, rnd}
use Rattle.ieee.proofs.Ops.{rnd_mono, rnd_fixed, twice, double_units, double_exact, mul_commutes, Positive, div-units}

-- +0.0
abbrev pub nought : Float
nought = fin false 0 (pos 0)

pub nought_is : of_bits binary64 0 ≡ nought
unfolding of_bits
nought_is = refl

pub twice_is : of_bits binary64 0x4000_0000_0000_0000 ≡ twice
unfolding of_bits
twice_is = refl

-- x != 0.0
abbrev pub nonzero : Float → Bool
nonzero x = ne x nought

pub mag-nought : (f : Format) (s : Bool) → mag f (fin s 0 (pos 0)) ≡ 0
mag-nought f s = ap (λ (z : ℕ). z / 1) (zero-mul (2 ^ low f)) ∙ zero-div 1

pub nought-finite : (f : Format) (s : Bool) → Finite f (fin s 0 (pos 0))
nought-finite f s = record { held = unfold fits in tt; ends = tt }

-- ---- the tests against zero
level_zero : (s : Bool) (n : ℕ) → not (level s n false 0) ≡ ltb 0 n
level_zero s n = iff (not (eqb n 0 && (beq s false || eqb n 0))) (ltb 0 n) (λ t. go s (eq-zero-or-pos n) t)
    (λ t. back (eqb n 0) (eqb→eq n 0) (ltb→lt 0 n t))
  where
    same : (s : Bool) → beq s false || true ≡ true
    same true = refl
    same false = refl

    go : (s : Bool) → (n ≡ 0) ⊎ (0 < n) → T (not (eqb n 0 && (beq s false || eqb n 0))) → T (ltb 0 n)
    go s (inl e) t = absurd (subst (λ (z : Bool). T (not z)) (same s) (subst (λ (z : ℕ). T (not (eqb z 0 && (beq s false || eqb z 0)))) e t))
    go s (inr h) t = lt→ltb 0 n h

    back : (t : Bool) → (T t → n ≡ 0) → 0 < n → T (not (t && (beq s false || t)))
    back true h k = let e : n ≡ 0 = h tt in let z : ⊥ = omega arith in absurd z
    back false h k = tt

pub nonzero_is : {f : Format} {x : Float} → Number f x → nonzero x ≡ ltb 0 (mag f x)
unfolding ne
nonzero_is {f} {x} p =
    ap not (eq_is f x nought p.held (nought-finite f false).held p.num tt ∙ ap (λ (z : ℕ). level (sign x) (mag f x) false z) (mag-nought f false))
    ∙ level_zero (sign x) (mag f x)

above_zero : (t : Bool) (n : ℕ) → below false 0 t n ≡ not t && ltb 0 n
above_zero true n = refl
above_zero false n = refl

under_zero : (s : Bool) (n : ℕ) → below s n false 0 ≡ s && ltb 0 n
under_zero true n = ap (λ (z : ℕ). ltb 0 z) (add-zero n)
under_zero false n = iff (ltb n 0) false (λ t. let h : n < 0 = ltb→lt n 0 t in let z : ⊥ = omega arith in absurd z) (λ t. absurd t)

-- 0.0 < x, and x < 0.0
pub above_is : {f : Format} {x : Float} → Number f x → lt nought x ≡ not (sign x) && ltb 0 (mag f x)
above_is {f} {x} p = lt_is f nought x (nought-finite f false).held p.held tt p.num ∙ ap
    (λ (z : ℕ). below false z (sign x) (mag f x)) (mag-nought f false) ∙ above_zero (sign x) (mag f x)

pub under_is : {f : Format} {x : Float} → Number f x → lt x nought ≡ sign x && ltb 0 (mag f x)
under_is {f} {x} p = lt_is f x nought p.held (nought-finite f false).held p.num tt ∙ ap
    (λ (z : ℕ). below (sign x) (mag f x) false z) (mag-nought f false) ∙ under_zero (sign x) (mag f x)

-- ---- x, where it is not zero, has the sign of a w that is not zero
pub record Follows (f : Format) (w x : Float) : Type 0 where
  pub before : 0 < mag f x → 0 < mag f w
  pub sign_of : 0 < mag f x → sign x ≡ sign w

pub follows_self : (f : Format) (w : Float) → Follows f w w
follows_self f w = record { before = λ h. h; sign_of = λ h. refl }

pub follows_trans : {f : Format} {w x y : Float} → Follows f w x → Follows f x y → Follows f w y
follows_trans p q = record { before = λ h. p.before (q.before h); sign_of = λ h. q.sign_of h ∙ p.sign_of (q.before h) }

pub follows_nought : (f : Format) (w : Float) (s : Bool) → Follows f w (fin s 0 (pos 0))
follows_nought f w s = record {
  before = λ h. absurd (lt_irrefl 0 (subst (λ (z : ℕ). 0 < z) (mag-nought f s) h));
  sign_of = λ h. absurd (lt_irrefl 0 (subst (λ (z : ℕ). 0 < z) (mag-nought f s) h));
}

-- the tests say it
pub record SameSign (w x : Float) : Type 0 where
  pub nonzero-before : T (nonzero w)
  pub above_too : lt nought x ≡ lt nought w
  pub under_too : lt x nought ≡ lt w nought

pub same_sign : {f : Format} {w x : Float} → Number f w → Number f x → Follows f w x → T (nonzero x) → SameSign w x
same_sign {f} {w} {x} p q h t =
    let X : 0 < mag f x = ltb→lt 0 (mag f x) (subst T (nonzero_is q) t) in
    let W : 0 < mag f w = h.before X in
    let e : ltb 0 (mag f x) ≡ ltb 0 (mag f w) = iff (ltb 0 (mag f x)) (ltb 0 (mag f w)) (λ u. lt→ltb 0 (mag f w) W) (λ u. lt→ltb 0 (mag f x) X) in
    record {
      nonzero-before = subst T (sym (nonzero_is p)) (lt→ltb 0 (mag f w) W);
      above_too = above_is q ∙ ap (λ (z : Bool). not z && ltb 0 (mag f x)) (h.sign_of X) ∙ ap (λ (z : Bool). not (sign w) && z) e ∙ sym (above_is p);
      under_too = under_is q ∙ ap (λ (z : Bool). z && ltb 0 (mag f x)) (h.sign_of X) ∙ ap (λ (z : Bool). sign w && z) e ∙ sym (under_is p);
    }

-- ---- twice w
pub twice_number : {f : Format} {w : Float} → Finite f w → Number f (mul f twice w)
twice_number {f} {w} p = record { held = mul-fits f twice w; num = subst (λ (z : Float). T (is_num z)) (mul_commutes f w twice) (double_units p).number }

pub twice-sign : {f : Format} {w : Float} → Finite f w → sign (mul f twice w) ≡ sign w
twice-sign {f} {w} p = ap sign (mul_commutes f twice w) ∙ (double_units p).signed

twice-mag : {f : Format} {w : Float} → Finite f w → mag f (mul f twice w) ≡ min (overflow f) (rnd f (2 * mag f w))
twice-mag {f} {w} p = ap (mag f) (mul_commutes f twice w) ∙ (double_units p).size_is

cap : (o n m : ℕ) → n < o → m ≡ min o n → m ≡ n
cap o n m h e = omega arith

-- exactly twice as many units, short of overflow
pub twice-exact : {f : Format} {w : Float} → Finite f w → 2 * mag f w < overflow f → mag f (mul f twice w) ≡ 2 * mag f w
twice-exact {f} {w} p h = cap (overflow f) (2 * mag f w) (mag f (mul f twice w)) h (twice-mag p ∙ ap (min (overflow f)) (double_exact p h))

pub twice-finite : {f : Format} {w : Float} → Finite f w → 2 * mag f w < overflow f → Finite f (mul f twice w)
twice-finite {f} {w} p h = inside_finite (twice_number p) (subst (λ (z : ℕ). z < overflow f) (sym (twice-exact p h)) h)

pub twice_ge : {f : Format} {w : Float} → Finite f w → mag f w ≤ mag f (mul f twice w)
twice_ge {f} {w} p =
    le_trans (at_least (overflow f) (mag f w) (rnd f (2 * mag f w)) (finite_inside p)
    (le_trans (le_of_eq (sym (rnd_fixed p))) (rnd_mono f (let h : mag f w ≤ 2 * mag f w = omega arith in h))))
    (le_of_eq (sym (twice-mag p)))

none : (n : ℕ) → n ≡ 0 → 0 < n → ⊥
none n e h = omega arith

pub follows_twice : {f : Format} {w : Float} → Finite f w → Follows f w (mul f twice w)
follows_twice {f} {w} p = record { before = λ h. go (eq-zero-or-pos (mag f w)) h; sign_of = λ h. twice-sign p }
  where
    go : (mag f w ≡ 0) ⊎ (0 < mag f w) → 0 < mag f (mul f twice w) → 0 < mag f w
    go (inl e) h =
        let z : 2 * mag f w ≡ 0 = omega arith in
        absurd (none (mag f (mul f twice w)) (twice-exact p (subst (λ (y : ℕ). y < overflow f) (sym z) (pow_pos (low f + suc (emax f)))) ∙ z) h)
    go (inr k) h = k

-- 2.0 * w is zero only where w is
pub twice-nonzero : {f : Format} {w : Float} → Finite f w → nonzero (mul f twice w) ≡ nonzero w
twice-nonzero {f} {w} p =
    nonzero_is (twice_number p)
    ∙ iff (ltb 0 (mag f (mul f twice w))) (ltb 0 (mag f w))
    (λ t. lt→ltb 0 (mag f w) ((follows_twice p).before (ltb→lt 0 (mag f (mul f twice w)) t)))
    (λ t. lt→ltb 0 (mag f (mul f twice w)) (lt_of_lt_of_le (ltb→lt 0 (mag f w) t) (twice_ge p)))
    ∙ sym (nonzero_is (finite_number p))

-- ---- w over a positive value
pub div_number : {f : Format} {w y : Float} → Finite f w → Positive f y → Number f (div f w y)
div_number {f} {w} {y} p q = record { held = div-fits f w y; num = (div-units p q).number }

none_grid : (f : Format) (a c : ℕ) → 0 < c → a ≡ 0 → min (overflow f) (grid f a c) ≡ 0
none_grid f a c C e = ap (λ (z : ℕ). min (overflow f) (grid f z c)) e ∙ ap (min (overflow f)) (grid_zero f c C) ∙ least (overflow f)
  where
    least : (o : ℕ) → min o 0 ≡ 0
    least o = omega arith

pub follows_div : {f : Format} {w y : Float} → Finite f w → Positive f y → Follows f w (div f w y)
follows_div {f} {w} {y} p q = record { before = λ h. go (eq-zero-or-pos (mag f w)) h; sign_of = λ h. (div-units p q).signed }
  where
    go : (mag f w ≡ 0) ⊎ (0 < mag f w) → 0 < mag f (div f w y) → 0 < mag f w
    go (inl e) h = absurd (none (mag f (div f w y)) ((div-units p q).size_is ∙ none_grid f (mag f w) (mag f y) q.some e) h)
    go (inr k) h = k

pub unit_inside : (f : Format) → 2 ^ low f < overflow f
unit_inside f = pow-lt (let h : low f < low f + suc (emax f) = omega arith in h)

-- 1.0 is 2 ^ low units
pub one-units : (f : Format) → grid f 1 1 ≡ 2 ^ low f
one-units f = grid-exact f 1 1 1 (low f) (pow_pos 0) (one_few f) (lt_of_le_of_lt (le_of_eq (one-mul (2 ^ low f))) (unit_inside f))
    (sym (mul-one (1 * 2 ^ low f))) ∙ one-mul (2 ^ low f)

-- a value no larger than y gives a quotient of at most 1
pub div-at-most-one : {f : Format} {w y : Float} → Finite f w → Positive f y → mag f w ≤ mag f y → mag f (div f w y) ≤ 2 ^ low f
div-at-most-one {f} {w} {y} p q h =
    under_cap (overflow f) (2 ^ low f) (grid f (mag f w) (mag f y)) (mag f (div f w y))
    (le_trans (grid-le f (mag f w) (mag f y) 1 1 q.some (pow_pos 0)
    (le_trans (le_of_eq (mul-one (mag f w))) (le_trans h (le_of_eq (sym (one-mul (mag f y)))))))
    (le_of_eq (one-units f)))
    (div-units p q).size_is

pub div-finite : {f : Format} {w y : Float} → Finite f w → Positive f y → mag f w ≤ mag f y → Finite f (div f w y)
div-finite {f} {w} {y} p q h = inside_finite (div_number p q) (lt_of_le_of_lt (div-at-most-one p q h) (unit_inside f))

-- a value of at least y / 2 ^ k, k up to low, gives a quotient of at least 2 ^ -k
share : (f : Format) (k : ℕ) → k ≤ low f → grid f 1 (2 ^ k) ≡ 2 ^ (low f - k)
share f k h =
    grid-exact f 1 (2 ^ k) 1 (low f - k) (pow_pos k) (one_few f)
    (lt_of_le_of_lt (le_of_eq (one-mul (2 ^ (low f - k)))) (lt_of_le_of_lt (pow_mono (let g : low f - k ≤ low f = omega arith in g)) (unit_inside f)))
    (one-mul (2 ^ low f) ∙ ap (λ (z : ℕ). 2 ^ z) (let g : low f ≡ low f - k + k = omega arith in g) ∙ pow-add 2 (low f - k) k ∙ ap
    (λ (z : ℕ). z * 2 ^ k) (sym (one-mul (2 ^ (low f - k)))))
    ∙ one-mul (2 ^ (low f - k))

pub div-at-least : {f : Format} {w y : Float} (k : ℕ) → Finite f w → Positive f y → k ≤ low f → mag f y ≤ mag f w * 2 ^ k → 2 ^ (low f - k) ≤ mag f (div f w y)
div-at-least {f} {w} {y} k p q K h =
    le_trans
    (at_least (overflow f) (2 ^ (low f - k)) (grid f (mag f w) (mag f y))
    (lt_of_le_of_lt (pow_mono (let g : low f - k ≤ low f = omega arith in g)) (unit_inside f))
    (le_trans (le_of_eq (sym (share f k K))) (grid-le f 1 (2 ^ k) (mag f w) (mag f y) (pow_pos k) q.some (le_trans (le_of_eq (one-mul (mag f y))) h))))
    (le_of_eq (sym (div-units p q).size_is))

-- ---- so an entry that is nonzero after "double or zero, then divide" was nonzero before, with the same sign
