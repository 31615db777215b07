-- Every operation and comparison respects `Alike`: the sign of a zero operand can alter only the sign of a zero result. No operand need fit a format.
use mathlib.Core.Path.{◌≡◌, refl, sym, ap, ◌∙◌}
use Prim.Native.Nat.{ℕ, zero, suc, ◌+◌, ◌-◌, ◌*◌, ◌≤◌, ◌<◌, min}
use native.Mathlib.Nat.{zero-lt-suc, zero-mul, zero-add, add_comm, sub-zero, mul_comm, mul-pos}
use native.Mathlib.Omega.{arith}
use mathlib.Core.Bool.{Bool, true, false, not, ◌&&◌, ◌||◌, beq, cond}
use lib.IntN.{ℤ, pos}
use lib.Dec.{T, ltb, eqb, ltb→lt, nltb→le, eqb→eq, eqb-suc-zero}
use lib.Pow.{pow_pos}
use lib.Ieee.{Float, nan, inf, fin, Format, up, down, unlike, round, sum, neg, add, sub, mul, div, below, level, lt, le, eq, ne}
use lib.Ieee.Fits.{up_pos, down_pos, round-fits, and_l}
use lib.Ieee.Scale.{round_same, overflow}
use Rattle.ieee.specs.Units.{mag}
use Rattle.ieee.specs.Magnitude.{abs_of}
use Rattle.ieee.specs.Flat.{flat, is_zero}
use Rattle.ieee.proofs.Grid.{rounded}
use Rattle.ieee.proofs.Units.{unique, iff}
use Rattle.ieee.proofs.Ranks.{ltb_yes, ltb_no}
use Rattle.ieee.proofs.Ops.{grid_zero, mul_commutes}
use Rattle.ieee.proofs.Signs.{nought, mag-nought, nought-finite}

-- ---- a zero is rounded to a zero
least : (o m g : ℕ) → g ≡ 0 → m ≡ min o g → m ≡ 0
least o m g h e = omega arith

pub round_zero : (f : Format) (s : Bool) (c : ℕ) → 0 < c → round f s 0 c ≡ fin s 0 (pos 0)
round_zero f s c C =
    let r = rounded f s 0 c in
    unique f (round f s 0 c) (fin s 0 (pos 0)) (round-fits f s 0 c) (nought-finite f s).held r.number tt r.signed
    (least (overflow f) (mag f (round f s 0 c)) _ (grid_zero f c C) r.size_is ∙ sym (mag-nought f s))

flat_zero : (f : Format) (s : Bool) (a c : ℕ) → 0 < c → a ≡ 0 → flat (round f s a c) ≡ nought
flat_zero f s a c C e = ap (λ (z : ℕ). flat (round f s z c)) e ∙ ap flat (round_zero f s c C)

-- ---- sums with a zero
zero_zero : (f : Format) (s t : Bool) (a b c : ℕ) → 0 < c → a ≡ 0 → b ≡ 0 → flat (sum f s a t b c) ≡ nought
unfolding sum
zero_zero f s t a b c C h k = go (beq s t) (ltb a b)
  where
    go : (u v : Bool) → flat (cond u (round f s (a + b) c) (cond v (round f t (b - a) c) (round f (s && ltb b a) (a - b) c))) ≡ nought
    go true v = flat_zero f s (a + b) c C (omega arith)
    go false true = flat_zero f t (b - a) c C (omega arith)
    go false false = flat_zero f (s && ltb b a) (a - b) c C (omega arith)

pub zero_left : (f : Format) (s t : Bool) (a b c : ℕ) → a ≡ 0 → 0 < b → sum f s a t b c ≡ round f t b c
unfolding sum
zero_left f s t a b c h k = ap (λ (z : ℕ). sum f s z t b c) h ∙ go s t ∙ ap (λ (z : ℕ). round f t z c) (zero-add b)
  where
    other : (s t : Bool) → cond (ltb 0 b) (round f t (b - 0) c) (round f (s && ltb b 0) (0 - b) c) ≡ round f t (0 + b) c
    other s t = ap (λ (u : Bool). cond u (round f t (b - 0) c) (round f (s && ltb b 0) (0 - b) c)) (ltb_yes 0 b k) ∙ ap
        (λ (z : ℕ). round f t z c) (sub-zero b ∙ sym (zero-add b))

    go : (s t : Bool) → cond (beq s t) (round f s (0 + b) c)
        (cond (ltb 0 b) (round f t (b - 0) c) (round f (s && ltb b 0) (0 - b) c)) ≡ round f t (0 + b) c
    go true true = refl
    go true false = other true false
    go false true = other false true
    go false false = refl

-- ---- addition commutes
pub sum_commutes : (f : Format) (s : Bool) (a : ℕ) (t : Bool) (b c : ℕ) → sum f s a t b c ≡ sum f t b s a c
unfolding sum
sum_commutes f s a t b c = go s t
  where
    other : (s t : Bool) (u v : Bool) → (T u → a < b) → (T (not u) → b ≤ a) → (T v → b < a) → (T (not v) → a ≤ b)
        → cond u (round f t (b - a) c) (round f (s && v) (a - b) c) ≡ cond v (round f s (a - b) c) (round f (t && u) (b - a) c)
    other s t true true h h' k k' = let x : a < b = h tt in let y : b < a = k tt in let z : ⊥ = omega arith in absurd z
    other true true true false h h' k k' = refl
    other true false true false h h' k k' = refl
    other false true true false h h' k k' = refl
    other false false true false h h' k k' = refl
    other true true false true h h' k k' = refl
    other true false false true h h' k k' = refl
    other false true false true h h' k k' = refl
    other false false false true h h' k k' = refl
    other s t false false h h' k k' =
        let x : b ≤ a = h' tt in
        let y : a ≤ b = k' tt in
        let e : a - b ≡ b - a = omega arith in
        ap (λ (z : ℕ). round f (s && false) z c) e ∙ ap (λ (z : Bool). round f z (b - a) c) (both s t)
      where
        both : (s t : Bool) → s && false ≡ t && false
        both true true = refl
        both true false = refl
        both false true = refl
        both false false = refl

    unequal : (s t : Bool) → cond (ltb a b) (round f t (b - a) c) (round f (s && ltb b a) (a - b) c) ≡ cond (ltb b a)
        (round f s (a - b) c) (round f (t && ltb a b) (b - a) c)
    unequal s t = other s t (ltb a b) (ltb b a) (ltb→lt a b) (nltb→le a b) (ltb→lt b a) (nltb→le b a)

    go : (s t : Bool)
        → cond (beq s t) (round f s (a + b) c) (cond (ltb a b) (round f t (b - a) c) (round f (s && ltb b a) (a - b) c))
        ≡ cond (beq t s) (round f t (b + a) c) (cond (ltb b a) (round f s (a - b) c) (round f (t && ltb a b) (b - a) c))
    go true true = ap (λ (z : ℕ). round f true z c) (add_comm a b)
    go true false = unequal true false
    go false true = unequal false true
    go false false = ap (λ (z : ℕ). round f false z c) (add_comm a b)

inf_comm : (s t : Bool) → cond (beq s t) (inf s) nan ≡ cond (beq t s) (inf t) nan
inf_comm true true = refl
inf_comm true false = refl
inf_comm false true = refl
inf_comm false false = refl

pub add_commutes : (f : Format) (x y : Float) → add f x y ≡ add f y x
unfolding add
add_commutes f nan nan = refl
add_commutes f nan (inf t) = refl
add_commutes f nan (fin t n d) = refl
add_commutes f (inf s) nan = refl
add_commutes f (inf s) (inf t) = inf_comm s t
add_commutes f (inf s) (fin t n d) = refl
add_commutes f (fin s m e) nan = refl
add_commutes f (fin s m e) (inf t) = refl
add_commutes f (fin s m e) (fin t n d) = sum_commutes f s (m * up e * down d) t (n * up d * down e) (down e * down d) ∙ ap
    (λ (z : ℕ). sum f t (n * up d * down e) s (m * up e * down d) z) (mul_comm (down e) (down d))

-- ---- addition respects it
pub zero_times : (a b : ℕ) → 0 * a * b ≡ 0
zero_times a b = ap (λ (z : ℕ). z * b) (zero-mul a) ∙ zero-mul b

crossed : (a d e : ℕ) → a * e * (1 * d) ≡ a * 1 * (e * d)
crossed a d e = omega arith

left-flat : (f : Format) (s : Bool) (e : ℤ) (y : Float) → flat (add f (fin s zero e) y) ≡ flat (add f nought (flat y))
unfolding add
left-flat f s e nan = refl
left-flat f s e (inf t) = refl
left-flat f s e (fin t zero d) =
    zero_zero f s t (0 * up e * down d) (0 * up d * down e) (down e * down d) (mul-pos (down_pos e) (down_pos d))
    (zero_times (up e) (down d)) (zero_times (up d) (down e))
    ∙ sym (zero_zero f false false (0 * 1 * 1) (0 * 1 * 1) (1 * 1) (pow_pos 0) (zero_times 1 1) (zero_times 1 1))
left-flat f s e (fin t (suc n) d) =
    let N : 0 < suc n * up d = mul-pos (zero-lt-suc n) (up_pos d) in
    ap flat
    (zero_left f s t (0 * up e * down d) (suc n * up d * down e) (down e * down d) (zero_times (up e) (down d)) (mul-pos N (down_pos e))
    ∙ round_same f t (suc n * up d * down e) (down e * down d) (suc n * up d * 1) (1 * down d) (mul-pos (down_pos e) (down_pos d))
    (mul-pos (pow_pos 0) (down_pos d))
    (crossed (suc n * up d) (down d) (down e))
    ∙ sym (zero_left f false t (0 * 1 * down d) (suc n * up d * 1) (1 * down d) (zero_times 1 (down d)) (mul-pos N (pow_pos 0))))

pub add-flat : (f : Format) (x y : Float) → flat (add f x y) ≡ flat (add f (flat x) (flat y))
add-flat f nan y = unfold add in refl
add-flat f (inf s) nan = unfold add in refl
add-flat f (inf s) (inf t) = unfold add in refl
add-flat f (inf s) (fin t zero d) = unfold add in refl
add-flat f (inf s) (fin t (suc n) d) = unfold add in refl
add-flat f (fin s zero e) y = left-flat f s e y
add-flat f (fin s (suc m) e) nan = unfold add in refl
add-flat f (fin s (suc m) e) (inf t) = unfold add in refl
add-flat f (fin s (suc m) e) (fin t zero d) = ap flat (add_commutes f (fin s (suc m) e) (fin t zero d)) ∙ left-flat f t d
    (fin s (suc m) e) ∙ ap flat (add_commutes f nought (fin s (suc m) e))
add-flat f (fin s (suc m) e) (fin t (suc n) d) = refl

-- ---- the other operations
pub neg-flat : (x : Float) → flat (neg x) ≡ flat (neg (flat x))
unfolding neg
neg-flat nan = refl
neg-flat (inf s) = refl
neg-flat (fin s zero e) = refl
neg-flat (fin s (suc m) e) = refl

pub abs_flat : (x : Float) → flat (abs_of x) ≡ flat (abs_of (flat x))
abs_flat nan = refl
abs_flat (inf s) = refl
abs_flat (fin s zero e) = refl
abs_flat (fin s (suc m) e) = refl

pub flat-flat : (x : Float) → flat (flat x) ≡ flat x
flat-flat nan = refl
flat-flat (inf s) = refl
flat-flat (fin s zero e) = refl
flat-flat (fin s (suc m) e) = refl

pub sub-flat : (f : Format) (x y : Float) → flat (sub f x y) ≡ flat (sub f (flat x) (flat y))
unfolding sub
sub-flat f x y =
    add-flat f x (neg y) ∙ ap (λ (z : Float). flat (add f (flat x) z)) (neg-flat y) ∙ ap
    (λ (z : Float). flat (add f z (flat (neg (flat y))))) (sym (flat-flat x)) ∙ sym (add-flat f (flat x) (neg (flat y)))

mul_left : (f : Format) (s : Bool) (e : ℤ) (y : Float) → flat (mul f (fin s zero e) y) ≡ flat (mul f nought (flat y))
unfolding mul
mul_left f s e nan = refl
mul_left f s e (inf t) = refl
mul_left f s e (fin t zero d) = flat_zero f (unlike s t) (0 * up e * (0 * up d)) (down e * down d)
    (mul-pos (down_pos e) (down_pos d)) (zero_times (up e) (0 * up d)) ∙ sym
    (flat_zero f (unlike false false) (0 * 1 * (0 * 1)) (1 * 1) (pow_pos 0) (zero_times 1 (0 * 1)))
mul_left f s e (fin t (suc n) d) = flat_zero f (unlike s t) (0 * up e * (suc n * up d)) (down e * down d)
    (mul-pos (down_pos e) (down_pos d)) (zero_times (up e) (suc n * up d)) ∙ sym
    (flat_zero f (unlike false t) (0 * 1 * (suc n * up d)) (1 * down d) (mul-pos (pow_pos 0) (down_pos d))
    (zero_times 1 (suc n * up d)))

pub mul-flat : (f : Format) (x y : Float) → flat (mul f x y) ≡ flat (mul f (flat x) (flat y))
mul-flat f nan y = unfold mul in refl
mul-flat f (inf s) nan = unfold mul in refl
mul-flat f (inf s) (inf t) = unfold mul in refl
mul-flat f (inf s) (fin t zero d) = unfold mul in refl
mul-flat f (inf s) (fin t (suc n) d) = refl
mul-flat f (fin s zero e) y = mul_left f s e y
mul-flat f (fin s (suc m) e) nan = unfold mul in refl
mul-flat f (fin s (suc m) e) (inf t) = refl
mul-flat f (fin s (suc m) e) (fin t zero d) = ap flat (mul_commutes f (fin s (suc m) e) (fin t zero d)) ∙ mul_left f t d
    (fin s (suc m) e) ∙ ap flat (mul_commutes f nought (fin s (suc m) e))
mul-flat f (fin s (suc m) e) (fin t (suc n) d) = refl

div_zero_left : (f : Format) (s : Bool) (e : ℤ) (t : Bool) (n : ℕ) (d : ℤ) → flat (div f (fin s zero e) (fin t (suc n) d)) ≡ nought
unfolding div
div_zero_left f s e t n d =
    ap (λ (z : Bool). flat (cond z (cond (eqb 0 0) nan (inf (unlike s t))) (round f (unlike s t) (0 * up e * down d) (suc n * up d * down e)))) (eqb-suc-zero n)
    ∙ flat_zero f (unlike s t) (0 * up e * down d) (suc n * up d * down e)
    (mul-pos (mul-pos (zero-lt-suc n) (up_pos d)) (down_pos e)) (zero_times (up e) (down d))

-- a divisor that is not zero
pub div-flat : (f : Format) (x y : Float) → T (not (is_zero y)) → flat (div f x y) ≡ flat (div f (flat x) (flat y))
div-flat f nan y h = unfold div in refl
div-flat f (inf s) nan h = unfold div in refl
div-flat f (inf s) (inf t) h = unfold div in refl
div-flat f (inf s) (fin t zero d) h = absurd h
div-flat f (inf s) (fin t (suc n) d) h = refl
div-flat f (fin s zero e) nan h = unfold div in refl
div-flat f (fin s zero e) (inf t) h = unfold div in refl
div-flat f (fin s zero e) (fin t zero d) h = absurd h
div-flat f (fin s zero e) (fin t (suc n) d) h = div_zero_left f s e t n d ∙ sym (div_zero_left f false (pos 0) t n d)
div-flat f (fin s (suc m) e) nan h = unfold div in refl
div-flat f (fin s (suc m) e) (inf t) h = refl
div-flat f (fin s (suc m) e) (fin t zero d) h = absurd h
div-flat f (fin s (suc m) e) (fin t (suc n) d) h = refl

-- ---- comparisons
below_none : (s t : Bool) (a b : ℕ) → a ≡ 0 → b ≡ 0 → below s a t b ≡ false
below_none false false a b h k = ltb_no a b (omega arith)
below_none false true a b h k = refl
below_none true false a b h k = ltb_no 0 (a + b) (omega arith)
below_none true true a b h k = ltb_no b a (omega arith)

below_left : (s t : Bool) (a b : ℕ) → a ≡ 0 → 0 < b → below s a t b ≡ not t
below_left false false a b h k = ltb_yes a b (omega arith)
below_left false true a b h k = refl
below_left true false a b h k = ltb_yes 0 (a + b) (omega arith)
below_left true true a b h k = ltb_no b a (omega arith)

below_right : (s t : Bool) (a b : ℕ) → 0 < a → b ≡ 0 → below s a t b ≡ s
below_right false false a b h k = ltb_no a b (omega arith)
below_right false true a b h k = refl
below_right true false a b h k = ltb_yes 0 (a + b) (omega arith)
below_right true true a b h k = ltb_yes b a (omega arith)

some : (n u d : ℕ) → 0 < u → 0 < d → 0 < suc n * u * d
some n u d U D = mul-pos (mul-pos (zero-lt-suc n) U) D

pub lt-flat : (x y : Float) → lt x y ≡ lt (flat x) (flat y)
unfolding lt
lt-flat nan y = refl
lt-flat (inf s) nan = refl
lt-flat (inf s) (inf t) = refl
lt-flat (inf s) (fin t zero d) = refl
lt-flat (inf s) (fin t (suc n) d) = refl
lt-flat (fin s zero e) nan = refl
lt-flat (fin s zero e) (inf t) = refl
lt-flat (fin s zero e) (fin t zero d) = below_none s t (0 * up e * down d) (0 * up d * down e) (zero_times (up e) (down d)) (zero_times (up d) (down e))
lt-flat (fin s zero e) (fin t (suc n) d) = below_left s t (0 * up e * down d) (suc n * up d * down e) (zero_times (up e) (down d))
    (some n (up d) (down e) (up_pos d) (down_pos e)) ∙ sym
    (below_left false t (0 * 1 * down d) (suc n * up d * 1) (zero_times 1 (down d)) (some n (up d) 1 (up_pos d) (pow_pos 0)))
lt-flat (fin s (suc m) e) nan = refl
lt-flat (fin s (suc m) e) (inf t) = refl
lt-flat (fin s (suc m) e) (fin t zero d) = below_right s t (suc m * up e * down d) (0 * up d * down e)
    (some m (up e) (down d) (up_pos e) (down_pos d)) (zero_times (up d) (down e)) ∙ sym
    (below_right s false (suc m * up e * 1) (0 * 1 * down e) (some m (up e) 1 (up_pos e) (pow_pos 0)) (zero_times 1 (down e)))
lt-flat (fin s (suc m) e) (fin t (suc n) d) = refl

pub differ : (a b : ℕ) (u : Bool) → (a ≡ b → ⊥) → eqb a b && u ≡ false
differ a b u h = iff (eqb a b && u) false (λ t. absurd (h (eqb→eq a b (and_l (eqb a b) u t)))) (λ t. absurd t)

level_none : (s t : Bool) (a b : ℕ) → a ≡ 0 → b ≡ 0 → level s a t b ≡ true
level_none s t a b h k = ap (λ (z : ℕ). level s z t b) h ∙ ap (λ (z : ℕ). level s 0 t z) k ∙ go s t
  where
    go : (s t : Bool) → level s 0 t 0 ≡ true
    go true true = refl
    go true false = refl
    go false true = refl
    go false false = refl

pub eq-flat : (x y : Float) → eq x y ≡ eq (flat x) (flat y)
unfolding eq
eq-flat nan y = refl
eq-flat (inf s) nan = refl
eq-flat (inf s) (inf t) = refl
eq-flat (inf s) (fin t zero d) = refl
eq-flat (inf s) (fin t (suc n) d) = refl
eq-flat (fin s zero e) nan = refl
eq-flat (fin s zero e) (inf t) = refl
eq-flat (fin s zero e) (fin t zero d) = level_none s t (0 * up e * down d) (0 * up d * down e) (zero_times (up e) (down d)) (zero_times (up d) (down e))
eq-flat (fin s zero e) (fin t (suc n) d) =
    let z = zero_times (up e) (down d) in
    let z' = zero_times 1 (down d) in
    let k = some n (up d) (down e) (up_pos d) (down_pos e) in
    let k' = some n (up d) 1 (up_pos d) (pow_pos 0) in
    differ (0 * up e * down d) (suc n * up d * down e) (beq s t || eqb (0 * up e * down d) 0) (λ h. none _ _ z k h)
    ∙ sym (differ (0 * 1 * down d) (suc n * up d * 1) (beq false t || eqb (0 * 1 * down d) 0) (λ h. none _ _ z' k' h))
  where
    none : (a b : ℕ) → a ≡ 0 → 0 < b → a ≡ b → ⊥
    none a b h k e = omega arith
eq-flat (fin s (suc m) e) nan = refl
eq-flat (fin s (suc m) e) (inf t) = refl
eq-flat (fin s (suc m) e) (fin t zero d) =
    let z = zero_times (up d) (down e) in
    let z' = zero_times 1 (down e) in
    let k = some m (up e) (down d) (up_pos e) (down_pos d) in
    let k' = some m (up e) 1 (up_pos e) (pow_pos 0) in
    differ (suc m * up e * down d) (0 * up d * down e) (beq s t || eqb (suc m * up e * down d) 0) (λ h. none _ _ z k h)
    ∙ sym (differ (suc m * up e * 1) (0 * 1 * down e) (beq s false || eqb (suc m * up e * 1) 0) (λ h. none _ _ z' k' h))
  where
    none : (a b : ℕ) → b ≡ 0 → 0 < a → a ≡ b → ⊥
    none a b h k e = omega arith
eq-flat (fin s (suc m) e) (fin t (suc n) d) = refl

pub le-flat : (x y : Float) → le x y ≡ le (flat x) (flat y)
unfolding le
le-flat x y = ap (λ (u : Bool). u || eq x y) (lt-flat x y) ∙ ap (λ (u : Bool). lt (flat x) (flat y) || u) (eq-flat x y)

pub ne-flat : (x y : Float) → ne x y ≡ ne (flat x) (flat y)
unfolding ne
ne-flat x y = ap not (eq-flat x y)
