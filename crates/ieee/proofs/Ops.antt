-- The operations in units: a sum of two values that are not negative, twice a value, a quotient by a value above zero.
use mathlib.Core.Path.{◌≡◌, refl, sym, ap, ◌∙◌, subst}
use Prim.Native.Nat.{ℕ, suc, ◌+◌, ◌*◌, ◌^◌, ◌≤◌, ◌<◌, min}
use native.Mathlib.Nat.{le_of_eq, le_antisymm, lt_of_le_of_lt, zero-mul, mul-one, add-mul, mul_comm, mul_assoc, mul_left_comm}
use native.Mathlib.Nat.{mul_right_comm, mul-le-mul_right, mul-pos, pow-succ', eq_of_mul-eq-mul_right}
use native.Mathlib.Omega.{arith}
use mathlib.Core.Bool.{Bool, true, false, cond, true≢false}
use lib.IntN.{ℤ, pos}
use lib.Dec.{T, eqb, eqb→eq}
use lib.Pow.{pow_pos, pow_mono}
use lib.Ieee.{Float, nan, inf, fin, Format, prec, emax, low, up, down, unlike, round, sum, add, mul, div, fits}
use lib.Ieee.Fits.{up_pos, down_pos, two}
use lib.Ieee.Positive.{first_pos}
use lib.Ieee.Scale.{grid, overflow, finite}
use Rattle.ieee.specs.Units.{sign, mag, is_num}
use Rattle.ieee.proofs.Grid.{grid-le, grid-exact, Rounded, rounded}
use Rattle.ieee.proofs.Units.{units, grid_fixed}
use Rattle.ieee.proofs.Ranks.{Number}

-- ---- a finite value of the format
pub record Finite (f : Format) (x : Float) : Type 0 where
  pub held : T (fits f x)
  pub ends : T (finite x)

pub finite_number : {f : Format} {x : Float} → Finite f x → Number f x
finite_number {f} {x} p = record { held = p.held; num = go x p.ends }
  where
    go : (x : Float) → T (finite x) → T (is_num x)
    go nan t = absurd t
    go (inf s) t = tt
    go (fin s m e) t = tt

pub finite_inside : {f : Format} {x : Float} → Finite f x → mag f x < overflow f
finite_inside {f} {x} p = go x p.held p.ends
  where
    go : (x : Float) → T (fits f x) → T (finite x) → mag f x < overflow f
    go nan h t = absurd t
    go (inf s) h t = absurd t
    go (fin s m e) h t = (units f s m e h).inside

-- a number of fewer units than an infinity's is finite
pub inside_finite : {f : Format} {x : Float} → Number f x → mag f x < overflow f → Finite f x
inside_finite {f} {x} p h = record { held = p.held; ends = go x p.num h }
  where
    go : (x : Float) → T (is_num x) → mag f x < overflow f → T (finite x)
    go nan t h = absurd t
    go (inf s) t h = let z : ⊥ = omega arith in absurd z
    go (fin s m e) t h = tt

-- ---- equal fractions
pub grid_same : (f : Format) (a b c d : ℕ) → 0 < b → 0 < d → a * d ≡ c * b → grid f a b ≡ grid f c d
grid_same f a b c d B D e = le_antisymm (grid-le f a b c d B D (le_of_eq e)) (grid-le f c d a b D B (le_of_eq (sym e)))

pub grid_zero : (f : Format) (c : ℕ) → 0 < c → grid f 0 c ≡ 0
grid_zero f c C = grid-exact f 0 c 0 0 C (pow_pos (prec f))
    (lt_of_le_of_lt (le_of_eq (zero-mul (2 ^ 0))) (pow_pos (low f + suc (emax f))))
    (zero-mul (2 ^ low f) ∙ sym (ap (λ (z : ℕ). z * c) (zero-mul (2 ^ 0)) ∙ zero-mul c)) ∙ zero-mul (2 ^ 0)

-- 1 has few enough digits
pub one_few : (f : Format) → 1 < 2 ^ prec f
one_few f = let h : 2 ^ 2 ≤ 2 ^ prec f = pow_mono (two f) in omega arith

-- ---- n units, rounded
abbrev pub rnd : Format → ℕ → ℕ
rnd f n = grid f n (2 ^ low f)

pub rnd_mono : (f : Format) {m n : ℕ} → m ≤ n → rnd f m ≤ rnd f n
rnd_mono f {m} {n} h = grid-le f m (2 ^ low f) n (2 ^ low f) (pow_pos (low f)) (pow_pos (low f)) (mul-le-mul_right (2 ^ low f) h)

pub rnd-exact : (f : Format) (q j : ℕ) → q < 2 ^ prec f → q * 2 ^ j < overflow f → rnd f (q * 2 ^ j) ≡ q * 2 ^ j
rnd-exact f q j h k = grid-exact f (q * 2 ^ j) (2 ^ low f) q j (pow_pos (low f)) h k refl

pub rnd_fixed : {f : Format} {x : Float} → Finite f x → rnd f (mag f x) ≡ mag f x
rnd_fixed {f} {x} p = go x p.held p.ends
  where
    go : (x : Float) → T (fits f x) → T (finite x) → rnd f (mag f x) ≡ mag f x
    go nan h t = absurd t
    go (inf s) h t = absurd t
    go (fin s m e) h t = grid_fixed f s m e h

-- ---- a fraction that is n units
pub round-units : (f : Format) (s : Bool) (a c n : ℕ) → 0 < c → a * 2 ^ low f ≡ n * c → Rounded f s (rnd f n) (round f s a c)
round-units f s a c n C e = subst (λ (z : ℕ). Rounded f s z (round f s a c)) (grid_same f a c n (2 ^ low f) C (pow_pos (low f)) e) (rounded f s a c)

pub both-units : (a b c d x y K : ℕ) → a * K ≡ x * c → b * K ≡ y * d → (a * d + b * c) * K ≡ (x + y) * (c * d)
both-units a b c d x y K p q =
    add-mul (a * d) (b * c) K
    ∙ ap (λ (z : ℕ). z + b * c * K) (mul_right_comm a d K ∙ ap (λ (z : ℕ). z * d) p ∙ mul_assoc x c d)
    ∙ ap (λ (z : ℕ). x * (c * d) + z) (mul_right_comm b c K ∙ ap (λ (z : ℕ). z * c) q ∙ mul_assoc y d c ∙ ap (λ (z : ℕ). y * z) (mul_comm d c))
    ∙ sym (add-mul x y (c * d))

same_sign : (f : Format) (s : Bool) (a b c : ℕ) → sum f s a s b c ≡ round f s (a + b) c
unfolding sum
same_sign f true a b c = refl
same_sign f false a b c = refl

-- ---- a sum of two finite values of one sign
pub opened : (f : Format) (s : Bool) (m : ℕ) (i : ℤ) (r : Bool) (n : ℕ) (d : ℤ) → add f (fin s m i) (fin r n d) ≡ sum f s
    (m * up i * down d) r (n * up d * down i) (down i * down d)
unfolding add
opened f s m i r n d = refl

pub add-units : {f : Format} {x y : Float} → Finite f x → Finite f y → sign x ≡ sign y → Rounded f (sign y) (rnd f (mag f x + mag f y)) (add f x y)
add-units {f} {x} {y} p q e = go x y p.held p.ends q.held q.ends e
  where
    go : (x y : Float) → T (fits f x) → T (finite x) → T (fits f y) → T (finite y) → sign x ≡ sign y → Rounded f (sign y)
        (rnd f (mag f x + mag f y)) (add f x y)
    go nan y p t q u e = absurd t
    go (inf s) y p t q u e = absurd t
    go (fin s m i) nan p t q u e = absurd u
    go (fin s m i) (inf r) p t q u e = absurd u
    go (fin s m i) (fin r n d) p t q u e =
        subst (λ (z : Float). Rounded f r (rnd f (mag f (fin s m i) + mag f (fin r n d))) z)
        (sym (opened f s m i r n d ∙ ap (λ (z : Bool). sum f z (m * up i * down d) r (n * up d * down i) (down i * down d)) e ∙ same_sign
        f r (m * up i * down d) (n * up d * down i) (down i * down d)))
        (round-units f r (m * up i * down d + n * up d * down i) (down i * down d) (mag f (fin s m i) + mag f (fin r n d)) (mul-pos (down_pos i) (down_pos d))
        (both-units (m * up i) (n * up d) (down i) (down d) (mag f (fin s m i)) (mag f (fin r n d)) (2 ^ low f)
        (units f s m i p).cross (units f r n d q).cross))

-- ---- twice a value
abbrev pub twice : Float
twice = fin false 1 (pos 1)

pub unlike_false : (s : Bool) → unlike s false ≡ s
unlike_false true = refl
unlike_false false = refl

double_opened : (f : Format) (s : Bool) (m : ℕ) (e : ℤ) → mul f (fin s m e) twice ≡ round f (unlike s false) (m * up e * 2) (down e * 1)
unfolding mul
double_opened f s m e = refl

doubled_units : (a c n K : ℕ) → a * K ≡ n * c → a * 2 * K ≡ 2 * n * (c * 1)
doubled_units a c n K e = mul_right_comm a 2 K ∙ ap (λ (z : ℕ). z * 2) e ∙ mul_comm (n * c) 2 ∙ sym (mul_assoc 2 n c) ∙ ap
    (λ (z : ℕ). 2 * n * z) (sym (mul-one c))

pub double_units : {f : Format} {x : Float} → Finite f x → Rounded f (sign x) (rnd f (2 * mag f x)) (mul f x twice)
double_units {f} {x} p = go x p.held p.ends
  where
    go : (x : Float) → T (fits f x) → T (finite x) → Rounded f (sign x) (rnd f (2 * mag f x)) (mul f x twice)
    go nan p t = absurd t
    go (inf s) p t = absurd t
    go (fin s m e) p t =
        subst (λ (z : Float). Rounded f s (rnd f (2 * mag f (fin s m e))) z)
        (sym (double_opened f s m e ∙ ap (λ (z : Bool). round f z (m * up e * 2) (down e * 1)) (unlike_false s)))
        (round-units f s (m * up e * 2) (down e * 1) (2 * mag f (fin s m e)) (mul-pos (down_pos e) (pow_pos 0))
        (doubled_units (m * up e) (down e) (mag f (fin s m e)) (2 ^ low f) (units f s m e p).cross))

-- exact, short of overflow
pub double_exact : {f : Format} {x : Float} → Finite f x → 2 * mag f x < overflow f → rnd f (2 * mag f x) ≡ 2 * mag f x
double_exact {f} {x} p = go x p.held p.ends
  where
    go : (x : Float) → T (fits f x) → T (finite x) → 2 * mag f x < overflow f → rnd f (2 * mag f x) ≡ 2 * mag f x
    go nan p t h = absurd t
    go (inf s) p t h = absurd t
    go (fin s m e) p t h =
        let u = units f s m e p in
        let w : 2 * mag f (fin s m e) ≡ u.digits * 2 ^ suc u.place = ap (λ (z : ℕ). 2 * z) u.form ∙ mul_left_comm 2
        u.digits (2 ^ u.place) ∙ ap (λ (z : ℕ). u.digits * z) (sym (pow-succ' 2 u.place)) in
        ap (rnd f) w ∙ rnd-exact f u.digits (suc u.place) u.few_digits (subst (λ (z : ℕ). z < overflow f) w h) ∙ sym w

unlike_comm : (s t : Bool) → unlike s t ≡ unlike t s
unlike_comm true true = refl
unlike_comm true false = refl
unlike_comm false true = refl
unlike_comm false false = refl

pub mul_commutes : (f : Format) (x y : Float) → mul f x y ≡ mul f y x
unfolding mul
mul_commutes f nan nan = refl
mul_commutes f nan (inf t) = refl
mul_commutes f nan (fin t n d) = refl
mul_commutes f (inf s) nan = refl
mul_commutes f (inf s) (inf t) = ap inf (unlike_comm s t)
mul_commutes f (inf s) (fin t n d) = ap (λ (z : Bool). cond (eqb n 0) nan (inf z)) (unlike_comm s t)
mul_commutes f (fin s m e) nan = refl
mul_commutes f (fin s m e) (inf t) = ap (λ (z : Bool). cond (eqb m 0) nan (inf z)) (unlike_comm s t)
mul_commutes f (fin s m e) (fin t n d) =
    ap (λ (z : Bool). round f z (m * up e * (n * up d)) (down e * down d)) (unlike_comm s t)
    ∙ ap (λ (z : ℕ). round f (unlike t s) z (down e * down d)) (mul_comm (m * up e) (n * up d))
    ∙ ap (λ (z : ℕ). round f (unlike t s) (n * up d * (m * up e)) z) (mul_comm (down e) (down d))

-- ---- a quotient by a value above zero
div_opened : (f : Format) (s : Bool) (m : ℕ) (e : ℤ) (n : ℕ) (d : ℤ) → 0 < n → div f (fin s m e) (fin false n d) ≡ round f
    (unlike s false) (m * up e * down d) (n * up d * down e)
unfolding div
div_opened f s m e n d h = go (eqb n 0) (λ t. let z : n ≡ 0 = eqb→eq n 0 t in let k : ⊥ = omega arith in k)
  where
    go : (t : Bool) → (T t → ⊥) → cond t (cond (eqb m 0) nan (inf (unlike s false)))
        (round f (unlike s false) (m * up e * down d) (n * up d * down e)) ≡ round f (unlike s false) (m * up e * down d)
        (n * up d * down e)
    go true h = absurd (h tt)
    go false h = refl

-- a / c over b / d is x / y
cross_units : (a b c d x y K : ℕ) → 0 < K → a * K ≡ x * c → b * K ≡ y * d → a * d * y ≡ x * (b * c)
cross_units a b c d x y K k p q =
    eq_of_mul-eq-mul_right K k (a * d * y) (x * (b * c))
    (mul_right_comm (a * d) y K ∙ ap (λ (z : ℕ). z * y) (mul_right_comm a d K ∙ ap (λ (z : ℕ). z * d) p)
    ∙ (let l : x * c * d * y ≡ x * c * (y * d) = simp (mul_assoc, mul_comm, mul_left_comm) in l)
    ∙ ap (λ (z : ℕ). x * c * z) (sym q)
    ∙ (let r : x * c * (b * K) ≡ x * (b * c) * K = simp (mul_assoc, mul_comm, mul_left_comm) in r))

pub record Positive (f : Format) (x : Float) : Type 0 where
  pub fin : Finite f x
  pub plus : sign x ≡ false
  pub some : 0 < mag f x

m_pos : (f : Format) (s : Bool) (n : ℕ) (d : ℤ) → T (fits f (fin s n d)) → 0 < mag f (fin s n d) → 0 < n
m_pos f s n d p h = first_pos n (up d) (first_pos (n * up d) (2 ^ low f) (subst (λ (z : ℕ). 0 < z) (sym (units f s n d p).cross) (mul-pos h (down_pos d))))

pub div-units : {f : Format} {x y : Float} → Finite f x → Positive f y → Rounded f (sign x) (grid f (mag f x) (mag f y)) (div f x y)
div-units {f} {x} {y} p q = go x y p.held p.ends q.fin.held q.fin.ends q.plus q.some
  where
    go : (x y : Float) → T (fits f x) → T (finite x) → T (fits f y) → T (finite y) → sign y ≡ false → 0 < mag f y → Rounded f
        (sign x) (grid f (mag f x) (mag f y)) (div f x y)
    go nan y p t q u e h = absurd t
    go (inf s) y p t q u e h = absurd t
    go (fin s m i) nan p t q u e h = absurd u
    go (fin s m i) (inf r) p t q u e h = absurd u
    go (fin s m i) (fin true n d) p t q u e h = absurd (true≢false e)
    go (fin s m i) (fin false n d) p t q u e h =
        subst (λ (z : Float). Rounded f s (grid f (mag f (fin s m i)) (mag f (fin false n d))) z)
        (sym (div_opened f s m i n d (m_pos f false n d q h) ∙ ap (λ (z : Bool). round f z (m * up i * down d) (n * up d * down i)) (unlike_false s)))
        (subst (λ (z : ℕ). Rounded f s z (round f s (m * up i * down d) (n * up d * down i)))
        (grid_same f (m * up i * down d) (n * up d * down i) (mag f (fin s m i)) (mag f (fin false n d))
        (mul-pos (mul-pos (m_pos f false n d q h) (up_pos d)) (down_pos i)) h
        (cross_units (m * up i) (n * up d) (down i) (down d) (mag f (fin s m i)) (mag f (fin false n d)) (2 ^ low f)
        (pow_pos (low f)) (units f s m i p).cross (units f false n d q).cross))
        (rounded f s (m * up i * down d) (n * up d * down i)))

-- ---- a number of units below an infinity's is not cut
pub min_inside : (o m : ℕ) → m < o → min o m ≡ m
min_inside o m h = omega arith

pub under_cap : (o n g m : ℕ) → g ≤ n → m ≡ min o g → m ≤ n
under_cap o n g m h e = omega arith

pub at_least : (o n r : ℕ) → n < o → n ≤ r → n ≤ min o r
at_least o n r h k = omega arith
