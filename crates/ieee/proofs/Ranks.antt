-- Comparisons of values are comparisons of their ranks: so `le` is an order of the values that are not NaN, and `lt` its opposite.
use mathlib.Core.Path.{◌≡◌, refl, sym, ap, ◌∙◌, subst}
use mathlib.Core.Logic.{◌⊎◌, inl, inr}
use Prim.Native.Nat.{ℕ, suc, ◌+◌, ◌-◌, ◌*◌, ◌^◌, ◌≤◌, ◌<◌}
use native.Mathlib.Nat.{le_refl, le_trans, le_of_eq, le_of_lt, add-mul, mul_comm, mul_assoc, mul_right_comm, mul-pos, zero-mul, eq_of_mul-eq-mul_right}
use native.Mathlib.Omega.{arith}
use mathlib.Core.Bool.{Bool, true, false, not, ◌&&◌, ◌||◌, beq, cond}
use lib.Dec.{T, leb, ltb, eqb, leb→le, le→leb, nleb→lt, ltb→lt, lt→ltb, nltb→le, eqb→eq, eqb_refl}
use lib.Arith.{le→nltb}
use lib.Pow.{pow_pos}
use lib.Ieee.{Float, nan, inf, fin, Format, emax, low, up, down, below, level, lt, le, eq, fits}
use lib.Ieee.Fits.{and_l, and_r, and_i, down_pos, eq→eqb}
use lib.Ieee.Bits.{is_true, is_false}
use lib.Ieee.Positive.{first_pos}
use lib.Ieee.Scale.{overflow}
use Rattle.ieee.specs.Units.{sign, mag, is_num}
use Rattle.ieee.proofs.Units.{units, mag-le, iff, ltb_is, eqb_is, below-rank, rank}

-- ---- levels
level-rank : (o : ℕ) (s t : Bool) (x y : ℕ) → x ≤ o → y ≤ o → level s x t y ≡ eqb (cond s (o - x) (o + x)) (cond t (o - y) (o + y))
level-rank o false false x y h k = iff (eqb x y && true) (eqb (o + x) (o + y))
    (λ u. eq→eqb (ap (λ (z : ℕ). o + z) (eqb→eq x y (and_l (eqb x y) true u))))
    (λ u. and_i (eqb x y) true (eq→eqb (let e : o + x ≡ o + y = eqb→eq (o + x) (o + y) u in let g : x ≡ y = omega arith in g)) tt)
level-rank o true true x y h k = iff (eqb x y && true) (eqb (o - x) (o - y))
    (λ u. eq→eqb (ap (λ (z : ℕ). o - z) (eqb→eq x y (and_l (eqb x y) true u))))
    (λ u. and_i (eqb x y) true (eq→eqb (let e : o - x ≡ o - y = eqb→eq (o - x) (o - y) u in let g : x ≡ y = omega arith in g)) tt)
level-rank o false true x y h k =
    iff (eqb x y && eqb x 0) (eqb (o + x) (o - y))
    (λ u. eq→eqb (let e : x ≡ y = eqb→eq x y (and_l (eqb x y) (eqb x 0) u) in let z : x ≡ 0 = eqb→eq x 0
    (and_r (eqb x y) (eqb x 0) u) in let g : o + x ≡ o - y = omega arith in g))
    (λ u. let e : o + x ≡ o - y = eqb→eq (o + x) (o - y) u in let g : x ≡ y = omega arith in let z : x ≡ 0 = omega arith in and_i
    (eqb x y) (eqb x 0) (eq→eqb g) (eq→eqb z))
level-rank o true false x y h k =
    iff (eqb x y && eqb x 0) (eqb (o - x) (o + y))
    (λ u. eq→eqb (let e : x ≡ y = eqb→eq x y (and_l (eqb x y) (eqb x 0) u) in let z : x ≡ 0 = eqb→eq x 0
    (and_r (eqb x y) (eqb x 0) u) in let g : o - x ≡ o + y = omega arith in g))
    (λ u. let e : o - x ≡ o + y = eqb→eq (o - x) (o + y) u in let g : x ≡ y = omega arith in let z : x ≡ 0 = omega arith in and_i
    (eqb x y) (eqb x 0) (eq→eqb g) (eq→eqb z))

-- ---- finite values
pos_is : (A B K J : ℕ) → 0 < K → 0 < J → A * K ≡ B * J → ltb 0 A ≡ ltb 0 B
pos_is A B K J k j e =
    iff (ltb 0 A) (ltb 0 B)
    (λ t. lt→ltb 0 B (first_pos B J (subst (λ (z : ℕ). 0 < z) e (mul-pos (ltb→lt 0 A t) k))))
    (λ t. lt→ltb 0 A (first_pos A K (subst (λ (z : ℕ). 0 < z) (sym e) (mul-pos (ltb→lt 0 B t) j))))

zero_is : (A B K J : ℕ) → 0 < K → 0 < J → A * K ≡ B * J → eqb A 0 ≡ eqb B 0
zero_is A B K J k j e = iff (eqb A 0) (eqb B 0) (λ t. eq→eqb (none A B K J j e (eqb→eq A 0 t))) (λ t. eq→eqb (none B A J K k (sym e) (eqb→eq B 0 t)))
  where
    none : (A B K J : ℕ) → 0 < J → A * K ≡ B * J → A ≡ 0 → B ≡ 0
    none A B K J j e z = eq_of_mul-eq-mul_right J j B 0 (sym e ∙ ap (λ (y : ℕ). y * K) z ∙ zero-mul K ∙ sym (zero-mul J))

module _ (a b c d x y K : ℕ) (k : 0 < K) (C : 0 < c) (D : 0 < d) (p : a * K ≡ x * c) (q : b * K ≡ y * d) where
  left : a * d * K ≡ x * (c * d)
  left = mul_right_comm a d K ∙ ap (λ (z : ℕ). z * d) p ∙ mul_assoc x c d

  right : b * c * K ≡ y * (c * d)
  right = mul_right_comm b c K ∙ ap (λ (z : ℕ). z * c) q ∙ mul_assoc y d c ∙ ap (λ (z : ℕ). y * z) (mul_comm d c)

  below_is : (s t : Bool) → below s (a * d) t (b * c) ≡ below s x t y
  below_is false false = ltb_is a b c d x y K k C D p q
  below_is false true = refl
  below_is true false = pos_is (a * d + b * c) (x + y) K (c * d) k (mul-pos C D)
      (add-mul (a * d) (b * c) K ∙ ap (λ (z : ℕ). z + b * c * K) left ∙ ap (λ (z : ℕ). x * (c * d) + z) right ∙ sym
      (add-mul x y (c * d)))
  below_is true true = ltb_is b a d c y x K k D C q p

  level_is : (s t : Bool) → level s (a * d) t (b * c) ≡ level s x t y
  level_is s t = ap (λ (u : Bool). u && (beq s t || eqb (a * d) 0)) (eqb_is a b c d x y K k C D p q) ∙ ap
      (λ (u : Bool). eqb x y && (beq s t || u)) (zero_is (a * d) x K (c * d) k (mul-pos C D) left)

-- ---- with infinities
pub ltb_yes : (a b : ℕ) → a < b → ltb a b ≡ true
ltb_yes a b h = is_true (ltb a b) (lt→ltb a b h)

pub ltb_no : (a b : ℕ) → b ≤ a → ltb a b ≡ false
ltb_no a b h = is_false (ltb a b) (le→nltb a b h)

more : (o n : ℕ) → 0 < o → 0 < o + n
more o n h = omega arith

inf-inf : (o : ℕ) (s t : Bool) → 0 < o → s && not t ≡ below s o t o
inf-inf o false false h = sym (ltb_no o o (le_refl o))
inf-inf o false true h = refl
inf-inf o true false h = sym (ltb_yes 0 (o + o) (more o o h))
inf-inf o true true h = sym (ltb_no o o (le_refl o))

inf-fin : (o n : ℕ) (s t : Bool) → n < o → s ≡ below s o t n
inf-fin o n false false h = sym (ltb_no o n (le_of_lt h))
inf-fin o n false true h = refl
inf-fin o n true false h = sym (ltb_yes 0 (o + n) (let g : 0 < o + n = omega arith in g))
inf-fin o n true true h = sym (ltb_yes n o h)

fin-inf : (o n : ℕ) (s t : Bool) → n < o → not t ≡ below s n t o
fin-inf o n false false h = sym (ltb_yes n o h)
fin-inf o n false true h = refl
fin-inf o n true false h = sym (ltb_yes 0 (n + o) (let g : 0 < n + o = omega arith in g))
fin-inf o n true true h = sym (ltb_no o n (le_of_lt h))

differ : (a b : ℕ) (u : Bool) → (a ≡ b → ⊥) → false ≡ eqb a b && u
differ a b u h = iff false (eqb a b && u) (λ t. absurd t) (λ t. absurd (h (eqb→eq a b (and_l (eqb a b) u t))))

level-inf : (o : ℕ) (s t : Bool) → 0 < o → beq s t ≡ level s o t o
level-inf o s t h = sym (ap (λ (u : Bool). u && (beq s t || eqb o 0)) (is_true (eqb o o) (eqb_refl o)) ∙ drop (beq s t)
    (eqb o 0) (λ u. let e : o ≡ 0 = eqb→eq o 0 u in let z : ⊥ = omega arith in z))
  where
    drop : (a b : Bool) → (T b → ⊥) → a || b ≡ a
    drop true b h = refl
    drop false true h = absurd (h tt)
    drop false false h = refl

pub lt_is : (f : Format) (x y : Float) → T (fits f x) → T (fits f y) → T (is_num x) → T (is_num y) → lt x y ≡ below (sign x) (mag f x) (sign y) (mag f y)
unfolding lt
lt_is f nan y p q a b = absurd a
lt_is f (inf s) nan p q a b = absurd b
lt_is f (inf s) (inf t) p q a b = inf-inf (overflow f) s t (pow_pos (low f + suc (emax f)))
lt_is f (inf s) (fin t n d) p q a b = inf-fin (overflow f) (mag f (fin t n d)) s t (units f t n d q).inside
lt_is f (fin s m e) nan p q a b = absurd b
lt_is f (fin s m e) (inf t) p q a b = fin-inf (overflow f) (mag f (fin s m e)) s t (units f s m e p).inside
lt_is f (fin s m e) (fin t n d) p q a b = below_is (m * up e) (n * up d) (down e) (down d) (mag f (fin s m e)) (mag f (fin t n d))
    (2 ^ low f) (pow_pos (low f)) (down_pos e) (down_pos d) (units f s m e p).cross (units f t n d q).cross s t

apart : (n o : ℕ) → n < o → n ≡ o → ⊥
apart n o h e = omega arith

pub eq_is : (f : Format) (x y : Float) → T (fits f x) → T (fits f y) → T (is_num x) → T (is_num y) → eq x y ≡ level (sign x) (mag f x) (sign y) (mag f y)
unfolding eq
eq_is f nan y p q a b = absurd a
eq_is f (inf s) nan p q a b = absurd b
eq_is f (inf s) (inf t) p q a b = level-inf (overflow f) s t (pow_pos (low f + suc (emax f)))
eq_is f (inf s) (fin t n d) p q a b = differ (overflow f) (mag f (fin t n d)) (beq s t || eqb (overflow f) 0)
    (λ h. apart (mag f (fin t n d)) (overflow f) (units f t n d q).inside (sym h))
eq_is f (fin s m e) nan p q a b = absurd b
eq_is f (fin s m e) (inf t) p q a b = differ (mag f (fin s m e)) (overflow f) (beq s t || eqb (mag f (fin s m e)) 0)
    (λ h. apart (mag f (fin s m e)) (overflow f) (units f s m e p).inside h)
eq_is f (fin s m e) (fin t n d) p q a b = level_is (m * up e) (n * up d) (down e) (down d) (mag f (fin s m e)) (mag f (fin t n d))
    (2 ^ low f) (pow_pos (low f)) (down_pos e) (down_pos d) (units f s m e p).cross (units f t n d q).cross s t

-- ---- a NaN

-- a NaN is at or above nothing
pub not_under : (x : Float) → le x nan ≡ false
unfolding le lt eq
not_under nan = refl
not_under (inf s) = refl
not_under (fin s m e) = refl

-- a value is a NaN or a number
pub nan_or_number : (x : Float) → (x ≡ nan) ⊎ T (is_num x)
nan_or_number nan = inl refl
nan_or_number (inf s) = inr tt
nan_or_number (fin s m e) = inr tt

-- nothing is below a NaN
pub none_below : (x : Float) → lt x nan ≡ false
unfolding lt
none_below nan = refl
none_below (inf s) = refl
none_below (fin s m e) = refl

-- ---- a number of the format
pub record Number (f : Format) (x : Float) : Type 0 where
  pub held : T (fits f x)
  pub num : T (is_num x)

pub lt-rank : {f : Format} {x y : Float} → Number f x → Number f y → lt x y ≡ ltb (rank f x) (rank f y)
lt-rank {f} {x} {y} p q = lt_is f x y p.held q.held p.num q.num ∙ below-rank (overflow f) (sign x) (sign y) (mag f x)
    (mag f y) (mag-le f x p.held) (mag-le f y q.held)

pub eq-rank : {f : Format} {x y : Float} → Number f x → Number f y → eq x y ≡ eqb (rank f x) (rank f y)
eq-rank {f} {x} {y} p q = eq_is f x y p.held q.held p.num q.num ∙ level-rank (overflow f) (sign x) (sign y) (mag f x)
    (mag f y) (mag-le f x p.held) (mag-le f y q.held)

or_le : (a b : ℕ) → ltb a b || eqb a b ≡ leb a b
or_le a b = iff (ltb a b || eqb a b) (leb a b) (λ t. le→leb a b (go (ltb a b) (ltb→lt a b) t)) (λ t. back (ltb a b) (nltb→le a b) (leb→le a b t))
  where
    go : (u : Bool) → (T u → a < b) → T (u || eqb a b) → a ≤ b
    go true h t = le_of_lt (h tt)
    go false h t = le_of_eq (eqb→eq a b t)

    back : (u : Bool) → (T (not u) → b ≤ a) → a ≤ b → T (u || eqb a b)
    back true h l = tt
    back false h l = let g : b ≤ a = h tt in let e : a ≡ b = omega arith in eq→eqb e

pub le-rank : {f : Format} {x y : Float} → Number f x → Number f y → le x y ≡ leb (rank f x) (rank f y)
unfolding le
le-rank {f} {x} {y} p q = ap (λ (u : Bool). u || eq x y) (lt-rank p q) ∙ ap (λ (u : Bool). ltb (rank f x) (rank f y) || u)
    (eq-rank p q) ∙ or_le (rank f x) (rank f y)

-- ---- so `le` is an order
pub le_transitive : {f : Format} {x y z : Float} → Number f x → Number f y → Number f z → T (le x y) → T (le y z) → T (le x z)
le_transitive {f} {x} {y} {z} p q r h k =
    rw (le-rank p r) (le→leb (rank f x) (rank f z) (le_trans (leb→le (rank f x) (rank f y) (rw (le-rank p q) at h))
    (leb→le (rank f y) (rank f z) (rw (le-rank q r) at k))))

-- not below is at or above
pub lt_not_le : {f : Format} {x y : Float} → Number f x → Number f y → lt x y ≡ not (le y x)
lt_not_le {f} {x} {y} p q = lt-rank p q ∙ flip (rank f x) (rank f y) ∙ ap not (sym (le-rank q p))
  where
    flip : (a b : ℕ) → ltb a b ≡ not (leb b a)
    flip a b = iff (ltb a b) (not (leb b a)) (λ t. go (leb b a) (leb→le b a) (ltb→lt a b t)) (λ t. lt→ltb a b (nleb→lt b a t))
      where
        go : (u : Bool) → (T u → b ≤ a) → a < b → T (not u)
        go true h l = let g : b ≤ a = h tt in let z : ⊥ = omega arith in absurd z
        go false h l = tt

-- ---- values that are not negative: by their units
pub mag→le : {f : Format} {x y : Float} → Number f x → Number f y → sign x ≡ false → sign y ≡ false → mag f x ≤ mag f y → T (le x y)
mag→le {f} {x} {y} p q s t h = rw (le-rank p q, s, t) (le→leb (overflow f + mag f x) (overflow f + mag f y) (omega arith))

pub le→mag : {f : Format} {x y : Float} → Number f x → Number f y → sign x ≡ false → sign y ≡ false → T (le x y) → mag f x ≤ mag f y
le→mag {f} {x} {y} p q s t h = let g : overflow f + mag f x ≤ overflow f + mag f y = leb→le (overflow f + mag f x)
    (overflow f + mag f y) (rw (le-rank p q, s, t) at h) in omega arith
