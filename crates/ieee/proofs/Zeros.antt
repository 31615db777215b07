-- The sign of a sum that is zero: a running sum from +0.0 is never -0.0, so a zero term of either sign leaves it as it is. Which test says that a value is
-- a zero.
use mathlib.Core.Path.{◌≡◌, refl, sym, ap, ◌∙◌, subst}
use mathlib.Core.Logic.{◌⊎◌, inl, inr}
use Prim.Native.Nat.{ℕ, zero, suc, ◌+◌, ◌-◌, ◌*◌, ◌^◌, ◌≤◌, ◌<◌, min}
use native.Mathlib.Nat.{le_trans, le-suc, lt-suc_self, zero-lt-suc, le_of_eq, lt_of_lt_of_le, mul-pos, zero-mul, eq-zero-or-pos}
use native.Mathlib.Omega.{arith}
use mathlib.Core.Bool.{Bool, true, false, not, ◌&&◌, ◌||◌, beq, cond, false≢true}
use lib.IntN.{ℤ, pos}
use lib.Dec.{T, eqb, ltb, ltb→lt, nltb→le}
use lib.Pow.{pow_pos, pow_mono}
use lib.Ieee.{Float, nan, inf, fin, Format, add, eq, ne, fits, low, up, down, emax, level}
use lib.Ieee.Fits.{up_pos, add-fits}
use lib.Ieee.Scale.{overflow, finite}
use Rattle.seq.specs.Sums.{sum_from}
use Rattle.ieee.specs.Flat.{is_zero, is_minus_zero}
use Rattle.ieee.specs.Magnitude.{abs_of}
use Rattle.ieee.specs.Pass.{sum_up}
use Rattle.ieee.specs.Units.{sign, mag}
use Rattle.ieee.proofs.Grid.{Rounded}
use Rattle.ieee.proofs.Units.{unique, units}
use Rattle.ieee.proofs.Ops.{Finite, finite_inside, finite_number, min_inside, one_few, rnd, rnd-exact, rnd_fixed, rnd_mono}
use Rattle.ieee.proofs.Signs.{mag-nought, nonzero, nought-finite}
use Rattle.ieee.proofs.Flat.{differ, zero_times}
use Rattle.ieee.proofs.Alikes.{fits_zero}
use Rattle.ieee.proofs.SignedSums.{add_rounded, sum_sign, sum_size}

one_inside : (f : Format) → 1 * 2 ^ 0 < overflow f
one_inside f = let h : 2 ^ 1 ≤ 2 ^ (low f + suc (emax f)) = pow_mono (let g : 1 ≤ low f + suc (emax f) = omega arith in g) in omega arith

pub rnd-pos : (f : Format) (n : ℕ) → 0 < n → 0 < rnd f n
rnd-pos f n h = lt_of_lt_of_le (lt-suc_self 0) (le_trans (le_of_eq (sym (rnd-exact f 1 0 (one_few f) (one_inside f)))) (rnd_mono f h))

over-pos : (f : Format) → 0 < overflow f
over-pos f = pow_pos (low f + suc (emax f))

-- ---- -0.0, by its sign and its units
minus_of : (f : Format) (s : Bool) (m : ℕ) (e : ℤ) → T (fits f (fin s m e)) → s ≡ true → mag f (fin s m e) ≡ 0 → T (is_minus_zero (fin s m e))
minus_of f s zero e p h k = subst T (sym h) tt
minus_of f s (suc m) e p h k =
    let c = (units f s (suc m) e p).cross in
    let g : 0 < suc m * up e * 2 ^ low f = mul-pos (mul-pos (zero-lt-suc m) (up_pos e)) (pow_pos (low f)) in
    absurd (none (suc m * up e * 2 ^ low f) g (c ∙ ap (λ (z : ℕ). z * down e) k ∙ zero-mul (down e)))
  where
    none : (n : ℕ) → 0 < n → n ≡ 0 → ⊥
    none n h e = omega arith

of_minus : (f : Format) (x : Float) → T (fits f x) → T (is_minus_zero x) → (sign x ≡ true) × (mag f x ≡ 0)
of_minus f nan p h = absurd h
of_minus f (inf s) p h = absurd h
of_minus f (fin true zero e) p h = (refl, subst (λ (d : ℤ). mag f (fin true zero d) ≡ 0) (sym (fits_zero f true e p)) (mag-nought f true))
of_minus f (fin false zero e) p h = absurd h
of_minus f (fin s (suc m) e) p h = absurd h

not_minus : (f : Format) (x : Float) → T (fits f x) → T (finite x) → T (not (is_minus_zero x)) → sign x ≡ true → 0 < mag f x
not_minus f nan p t h s = absurd t
not_minus f (inf u) p t h s = absurd t
not_minus f (fin u m e) p t h s = go (eq-zero-or-pos (mag f (fin u m e)))
  where
    clash : (b : Bool) → T (not b) → T b → ⊥
    clash true n t = n
    clash false n t = t

    go : (mag f (fin u m e) ≡ 0) ⊎ (0 < mag f (fin u m e)) → 0 < mag f (fin u m e)
    go (inl z) = absurd (clash (is_minus_zero (fin u m e)) h (minus_of f u m e p s z))
    go (inr g) = g

-- ---- x + y is -0.0 only where x is
capped : (o r m : ℕ) → 0 < o → m ≡ min o r → m ≡ 0 → r ≡ 0
capped o r m h e z = omega arith

zero_sum : (f : Format) (n : ℕ) → rnd f n ≡ 0 → n ≡ 0
zero_sum f n h = go (eq-zero-or-pos n)
  where
    go : (n ≡ 0) ⊎ (0 < n) → n ≡ 0
    go (inl e) = e
    go (inr g) = let p = rnd-pos f n g in let z : ⊥ = omega arith in absurd z

sign_of_zero : (s t : Bool) (x y : ℕ) → sum_sign s x t y ≡ true → sum_size s x t y ≡ 0 → (s ≡ true) × (x ≡ 0)
sign_of_zero true true x y h k = (refl, let z : x ≡ 0 = omega arith in z)
sign_of_zero false false x y h k = absurd (false≢true h)
sign_of_zero true false x y h k = go (ltb x y) (ltb y x) (ltb→lt y x) h k
  where
    go : (u v : Bool) → (T v → y < x) → cond u false (true && v) ≡ true → cond u (y - x) (x - y) ≡ 0 → (true ≡ true) × (x ≡ 0)
    go true v l h k = absurd (false≢true h)
    go false true l h k = let g : y < x = l tt in let z : ⊥ = omega arith in absurd z
    go false false l h k = absurd (false≢true h)
sign_of_zero false true x y h k = go (ltb x y) (ltb→lt x y) h k
  where
    go : (u : Bool) → (T u → x < y) → cond u true (false && ltb y x) ≡ true → cond u (y - x) (x - y) ≡ 0 → (false ≡ true) × (x ≡ 0)
    go true l h k = let g : x < y = l tt in let z : ⊥ = omega arith in absurd z
    go false l h k = absurd (false≢true h)

-- a sum that is -0.0 has a first term that is
finite_case : {f : Format} {x y : Float} → Finite f x → Finite f y → T (not (is_minus_zero x)) → T (not (is_minus_zero (add f x y)))
finite_case {f} {x} {y} p q h = go (is_minus_zero (add f x y)) (λ t. of_minus f (add f x y) (add-fits f x y) t)
  where
    r : Rounded f (sum_sign (sign x) (mag f x) (sign y) (mag f y)) (rnd f (sum_size (sign x) (mag f x) (sign y) (mag f y))) (add f x y)
    r = add_rounded p q

    go : (b : Bool) → (T b → (sign (add f x y) ≡ true) × (mag f (add f x y) ≡ 0)) → T (not b)
    go false k = tt
    go true k =
        let w = k tt in
        let z = zero_sum f (sum_size (sign x) (mag f x) (sign y) (mag f y))
        (capped (overflow f) (rnd f (sum_size (sign x) (mag f x) (sign y) (mag f y))) (mag f (add f x y)) (over-pos f)
        r.size_is w.1) in
        let v = sign_of_zero (sign x) (sign y) (mag f x) (mag f y) (sym r.signed ∙ w.0) z in
        let g = not_minus f x p.held p.ends h v.0 in
        let e = v.1 in
        absurd (let y : ⊥ = omega arith in y)

pub never_minus : (f : Format) (x y : Float) → T (fits f x) → T (fits f y) → T (not (is_minus_zero x)) → T (not (is_minus_zero (add f x y)))
never_minus f nan y p q h = unfold add in tt
never_minus f (inf s) nan p q h = unfold add in tt
never_minus f (inf s) (inf t) p q h = unfold add in infs s t
  where
    infs : (s t : Bool) → T (not (is_minus_zero (cond (beq s t) (inf s) nan)))
    infs true true = tt
    infs true false = tt
    infs false true = tt
    infs false false = tt
never_minus f (inf s) (fin t n d) p q h = unfold add in tt
never_minus f (fin s m e) nan p q h = unfold add in tt
never_minus f (fin s m e) (inf t) p q h = unfold add in tt
never_minus f (fin s m e) (fin t n d) p q h = finite_case (record { held = p; ends = tt }) (record { held = q; ends = tt }) h

pub sum_fits : (f : Format) (v : ℕ → Float) (k : ℕ) → T (fits f (sum_up f v k))
unfolding sum_from
sum_fits f v zero = (nought-finite f false).held
sum_fits f v (suc k) = add-fits f (sum_up f v k) (v k)

-- a running sum from +0.0 of values of the format
pub sum_never_minus : (f : Format) (v : ℕ → Float) (k : ℕ) → ((j : ℕ) → j < k → T (fits f (v j))) → T (not (is_minus_zero (sum_up f v k)))
unfolding sum_from
sum_never_minus f v zero h = tt
sum_never_minus f v (suc k) h = never_minus f (sum_up f v k) (v k) (sum_fits f v k) (h k (lt-suc_self k))
    (sum_never_minus f v k (λ j l. h j (le_trans l (le-suc k))))

-- ---- a zero of either sign added to a value that is not -0.0
signs : (s t : Bool) (x : ℕ) → (s ≡ true → 0 < x) → sum_sign s x t 0 ≡ s
signs true true x h = refl
signs false false x h = refl
signs true false x h = go (ltb x 0) (ltb 0 x) (ltb→lt x 0) (nltb→le 0 x)
  where
    go : (u v : Bool) → (T u → x < 0) → (T (not v) → x ≤ 0) → cond u false (true && v) ≡ true
    go true v l g = let k : x < 0 = l tt in let z : ⊥ = omega arith in absurd z
    go false true l g = refl
    go false false l g = let k : x ≤ 0 = g tt in let p : 0 < x = h refl in let z : ⊥ = omega arith in absurd z
signs false true x h = go (ltb x 0) (ltb→lt x 0)
  where
    go : (u : Bool) → (T u → x < 0) → cond u true (false && ltb 0 x) ≡ false
    go true l = let k : x < 0 = l tt in let z : ⊥ = omega arith in absurd z
    go false l = refl

sizes : (s t : Bool) (x : ℕ) → sum_size s x t 0 ≡ x
sizes true true x = omega arith
sizes false false x = omega arith
sizes true false x = go (ltb x 0) (ltb→lt x 0)
  where
    go : (u : Bool) → (T u → x < 0) → cond u (0 - x) (x - 0) ≡ x
    go true l = let k : x < 0 = l tt in omega arith
    go false l = omega arith
sizes false true x = go (ltb x 0) (ltb→lt x 0)
  where
    go : (u : Bool) → (T u → x < 0) → cond u (0 - x) (x - 0) ≡ x
    go true l = let k : x < 0 = l tt in omega arith
    go false l = omega arith

finite-plus_zero : {f : Format} {x : Float} (t : Bool) → Finite f x → T (not (is_minus_zero x)) → add f x (fin t 0 (pos 0)) ≡ x
finite-plus_zero {f} {x} t p h =
    let r = add_rounded p (nought-finite f t) in
    let n = mag-nought f t in
    unique f (add f x (fin t 0 (pos 0))) x (add-fits f x (fin t 0 (pos 0))) p.held r.number (finite_number p).num
    (r.signed ∙ ap (λ (z : ℕ). sum_sign (sign x) (mag f x) t z) n ∙ signs (sign x) t (mag f x) (not_minus f x p.held p.ends h))
    (r.size_is ∙ ap (λ (z : ℕ). min (overflow f) (rnd f (sum_size (sign x) (mag f x) t z))) n ∙ ap
    (λ (z : ℕ). min (overflow f) (rnd f z)) (sizes (sign x) t (mag f x)) ∙ ap (min (overflow f)) (rnd_fixed p) ∙ min_inside
    (overflow f) (mag f x) (finite_inside p))

pub plus_zero_lem : (f : Format) (x : Float) (t : Bool) → T (fits f x) → T (not (is_minus_zero x)) → add f x (fin t 0 (pos 0)) ≡ x
plus_zero_lem f nan t p h = unfold add in refl
plus_zero_lem f (inf s) t p h = unfold add in refl
plus_zero_lem f (fin s m e) t p h = finite-plus_zero t (record { held = p; ends = tt }) h

-- so a term that is zero can be skipped
pub plus-nothing : (f : Format) (x y : Float) → T (fits f x) → T (fits f y) → T (not (is_minus_zero x)) → T (is_zero y) → add f x y ≡ x
plus-nothing f x nan p q h z = absurd z
plus-nothing f x (inf t) p q h z = absurd z
plus-nothing f x (fin t zero d) p q h z = ap (λ (e : ℤ). add f x (fin t zero e)) (fits_zero f t d q) ∙ plus_zero_lem f x t p h
plus-nothing f x (fin t (suc n) d) p q h z = absurd z

-- ---- a magnitude is never -0.0
pub abs_not_minus : (x : Float) → T (not (is_minus_zero (abs_of x)))
abs_not_minus nan = tt
abs_not_minus (inf s) = tt
abs_not_minus (fin s zero e) = tt
abs_not_minus (fin s (suc m) e) = tt

pub abs_zero : (x : Float) → T (is_zero x) → T (is_zero (abs_of x))
abs_zero nan h = absurd h
abs_zero (inf s) h = absurd h
abs_zero (fin s zero e) h = tt
abs_zero (fin s (suc m) e) h = absurd h

-- ---- x != 0.0 is no more than not being a zero, for a NaN and for any way to write a zero
same_zero : (s : Bool) (a b : ℕ) → a ≡ 0 → b ≡ 0 → level s a false b ≡ true
same_zero s a b h k = ap (λ (z : ℕ). level s z false b) h ∙ ap (λ (z : ℕ). level s 0 false z) k ∙ go s
  where
    go : (s : Bool) → level s 0 false 0 ≡ true
    go true = refl
    go false = refl

pub nonzero_not_zero : (x : Float) → nonzero x ≡ not (is_zero x)
unfolding ne eq
nonzero_not_zero nan = refl
nonzero_not_zero (inf s) = refl
nonzero_not_zero (fin s zero e) = ap not (same_zero s (0 * up e * 1) (0 * 1 * down e) (zero_times (up e) 1) (zero_times 1 (down e)))
nonzero_not_zero (fin s (suc m) e) = ap not (differ (suc m * up e * 1) (0 * 1 * down e)
    (beq s false || eqb (suc m * up e * 1) 0) (λ h. none (suc m * up e * 1) (0 * 1 * down e)
    (mul-pos (mul-pos (zero-lt-suc m) (up_pos e)) (pow_pos 0)) (zero_times 1 (down e)) h))
  where
    none : (a b : ℕ) → 0 < a → b ≡ 0 → a ≡ b → ⊥
    none a b h k e = omega arith
