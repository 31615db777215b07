-- A value as its part above zero less its part below, in units; what a sum, a difference and a product are, but for rounding.
use mathlib.Core.Path.{◌≡◌, refl, sym, ap, subst}
use Prim.Native.Nat.{ℕ, ◌+◌, ◌-◌, ◌*◌, ◌^◌, ◌≤◌, ◌<◌, min}
use native.Mathlib.Nat.{le_trans, le_of_eq, lt_of_le_of_lt, le_of_mul-le-mul_right}
use native.Mathlib.Omega.{arith}
use mathlib.Core.Bool.{Bool, true, false, not, cond, ◌&&◌}
use lib.Dec.{T, ltb, ltb→lt, nltb→le}
use lib.Pow.{pow_pos}
use lib.Ieee.{Float, Format, prec, low, unlike, add, sub, mul}
use lib.Ieee.Scale.{grid, overflow}
use Rattle.ieee.specs.Units.{sign, mag}
use Rattle.ieee.proofs.Grid.{Rounded}
use Rattle.ieee.proofs.Ops.{Finite, rnd}
use Rattle.ieee.proofs.Products.{mul-units}
use Rattle.ieee.proofs.SignedSums.{sum_sign, sum_size, add_rounded}
use Rattle.reaching.proofs.Divide.{sub_rounded}
use Rattle.reaching.specs.Whole.{About}
use Rattle.reaching.proofs.Close.{rnd_about, mul_about}
use Rattle.bounded.proofs.Close.{Close, close_trans}
use Rattle.bounded.proofs.Within.{size-le}

abbrev pub over : Bool → ℕ → ℕ
over s m = cond s 0 m

abbrev pub below : Bool → ℕ → ℕ
below s m = cond s m 0

-- ---- a sum's sign and size
exact : (s t : Bool) (x y : ℕ)
    → Close 0 (over (sum_sign s x t y) (sum_size s x t y)) (below (sum_sign s x t y) (sum_size s x t y)) (over s x + over t y) (below s x + below t y)
exact true true x y = record { over = omega arith; low_by = omega arith }
exact false false x y = record { over = omega arith; low_by = omega arith }
exact true false x y = go (ltb x y) (ltb y x) (ltb→lt x y) (nltb→le x y) (nltb→le y x)
  where
    go : (b c : Bool) → (T b → x < y) → (T (not b) → y ≤ x) → (T (not c) → x ≤ y)
        → Close 0 (over (cond b false (true && c)) (cond b (y - x) (x - y))) (below (cond b false (true && c)) (cond b (y - x) (x - y))) (0 + y) (x + 0)
    go true c h k l = let a : x < y = h tt in record { over = omega arith; low_by = omega arith }
    go false true h k l = let a : y ≤ x = k tt in record { over = omega arith; low_by = omega arith }
    go false false h k l = let a : y ≤ x = k tt in let b : x ≤ y = l tt in record { over = omega arith; low_by = omega arith }
exact false true x y = go (ltb x y) (ltb→lt x y) (nltb→le x y)
  where
    go : (b : Bool) → (T b → x < y) → (T (not b) → y ≤ x)
        → Close 0 (over (cond b true false) (cond b (y - x) (x - y))) (below (cond b true false) (cond b (y - x) (x - y))) (x + 0) (0 + y)
    go true h k = let a : x < y = h tt in record { over = omega arith; low_by = omega arith }
    go false h k = let a : y ≤ x = k tt in record { over = omega arith; low_by = omega arith }

-- ---- one sign, two sizes
pub sized : (s : Bool) (e r n : ℕ) → r ≤ n + e → n ≤ r + e → Close e (over s r) (below s r) (over s n) (below s n)
sized true e r n h k = record { over = omega arith; low_by = omega arith }
sized false e r n h k = record { over = omega arith; low_by = omega arith }

off_above : (N a c g e : ℕ) → 0 < N → About N a c g → a + c * N ≤ e * N → g * c ≤ a + e
off_above N a c g e P h b = le_of_mul-le-mul_right (let x = h.above in let y : g * c * N ≤ (a + e) * N = omega arith in y) P

off_under : (N a c g e : ℕ) → 0 < N → About N a c g → a + c * N ≤ e * N → a ≤ g * c + e
off_under N a c g e P h b = le_of_mul-le-mul_right (let x = h.under in let y : a * N ≤ (g * c + e) * N = omega arith in y) P

-- ---- the operations
abbrev pub plus : Format → Float → ℕ
plus f x = over (sign x) (mag f x)

abbrev pub less : Format → Float → ℕ
less f x = below (sign x) (mag f x)

under_cap : (o n m : ℕ) → n < o → m ≡ min o n → m ≡ n
under_cap o n m h e = omega arith

one : (a : ℕ) → a * 1 ≡ a
one a = omega arith

-- a sum of x and a value of sign t and size y
summed : (f : Format) (s t : Bool) (x y e : ℕ) (z : Float) → Rounded f (sum_sign s x t y) (rnd f (sum_size s x t y)) z
    → x + y + 2 ^ prec f ≤ e * 2 ^ prec f → x + y + e < overflow f → Close e (plus f z) (less f z) (over s x + over t y) (below s x + below t y)
summed f s t x y e z r h o =
    let N = 2 ^ prec f in
    let n = sum_size s x t y in
    let P = pow_pos (prec f) in
    let b : n + 1 * N ≤ e * N = let l = size-le s t x y in omega arith in
    let u : rnd f n ≤ n + e = le_trans (le_of_eq (sym (one (rnd f n)))) (off_above N n 1 (rnd f n) e P (rnd_about f n) b) in
    let l : n ≤ rnd f n + e = le_trans (off_under N n 1 (rnd f n) e P (rnd_about f n) b) (le_of_eq (ap (λ (w : ℕ). w + e) (one (rnd f n)))) in
    let m : mag f z ≡ rnd f n = under_cap (overflow f) (rnd f n) (mag f z)
    (lt_of_le_of_lt u (let g = size-le s t x y in let k : n + e < overflow f = omega arith in k)) r.size_is in
    let c : Close e (over (sign z) (mag f z)) (below (sign z) (mag f z)) (over (sum_sign s x t y) n) (below (sum_sign s x t y) n) =
    subst (λ (k : ℕ). Close e (over (sign z) k) (below (sign z) k) (over (sum_sign s x t y) n) (below (sum_sign s x t y) n)) (sym m)
    (subst (λ (w : Bool). Close e (over w (rnd f n)) (below w (rnd f n)) (over (sum_sign s x t y) n) (below (sum_sign s x t y) n)) (sym r.signed)
    (sized (sum_sign s x t y) e (rnd f n) n u l)) in
    subst (λ (k : ℕ). Close k (plus f z) (less f z) (over s x + over t y) (below s x + below t y)) (let g : e + 0 ≡ e = omega arith in g)
    (close_trans c (exact s t x y))

pub add_close : {f : Format} {x y : Float} (e : ℕ) → Finite f x → Finite f y → mag f x + mag f y + 2 ^ prec f ≤ e * 2 ^ prec f
    → mag f x + mag f y + e < overflow f → Close e (plus f (add f x y)) (less f (add f x y)) (plus f x + plus f y) (less f x + less f y)
add_close {f} {x} {y} e p q h o = summed f (sign x) (sign y) (mag f x) (mag f y) e (add f x y) (add_rounded p q) h o

flip : (s : Bool) (m : ℕ) → over (not s) m ≡ below s m
flip true m = refl
flip false m = refl

flip' : (s : Bool) (m : ℕ) → below (not s) m ≡ over s m
flip' true m = refl
flip' false m = refl

pub sub_close : {f : Format} {x y : Float} (e : ℕ) → Finite f x → Finite f y → mag f x + mag f y + 2 ^ prec f ≤ e * 2 ^ prec f
    → mag f x + mag f y + e < overflow f → Close e (plus f (sub f x y)) (less f (sub f x y)) (plus f x + less f y) (less f x + plus f y)
sub_close {f} {x} {y} e p q h o =
    let c = summed f (sign x) (not (sign y)) (mag f x) (mag f y) e (sub f x y) (sub_rounded p q) h o in
    subst (λ (k : ℕ). Close e (plus f (sub f x y)) (less f (sub f x y)) (plus f x + less f y) (less f x + k)) (flip' (sign y) (mag f y))
    (subst (λ (k : ℕ). Close e (plus f (sub f x y)) (less f (sub f x y)) (plus f x + k) (less f x + below (not (sign y)) (mag f y)))
    (flip (sign y) (mag f y)) c)

times-over : (s : Bool) (m K : ℕ) → over s (m * K) ≡ over s m * K
times-over true m K = omega arith
times-over false m K = refl

times_below : (s : Bool) (m K : ℕ) → below s (m * K) ≡ below s m * K
times_below true m K = refl
times_below false m K = omega arith

-- a product, in units of 1 / K of a unit
pub mul_close : {f : Format} {x y : Float} (e : ℕ) → Finite f x → Finite f y → mag f (mul f x y) < overflow f
    → mag f x * mag f y + 2 ^ low f * 2 ^ prec f ≤ e * 2 ^ prec f
    → Close e (plus f (mul f x y) * 2 ^ low f) (less f (mul f x y) * 2 ^ low f) (over (unlike (sign x) (sign y)) (mag f x * mag f y))
    (below (unlike (sign x) (sign y)) (mag f x * mag f y))
mul_close {f} {x} {y} e p q o h =
    let K = 2 ^ low f in
    let N = 2 ^ prec f in
    let P = pow_pos (prec f) in
    let r = mul-units p q in
    let z = mul f x y in
    let a = mag f x * mag f y in
    let g = grid f a (K * K) in
    let s = unlike (sign x) (sign y) in
    let m : mag f z ≡ g = short (overflow f) g (mag f z) o r.size_is in
    let c : Close e (over s (g * K)) (below s (g * K)) (over s a) (below s a) =
    sized s e (g * K) a (off_above N a K g e P (mul_about f a) h) (off_under N a K g e P (mul_about f a) h) in
    subst (λ (w : Bool). Close e (over w (mag f z) * K) (below w (mag f z) * K) (over s a) (below s a)) (sym r.signed)
    (subst (λ (k : ℕ). Close e (over s k * K) (below s k * K) (over s a) (below s a)) (sym m)
    (subst (λ (k : ℕ). Close e k (below s g * K) (over s a) (below s a)) (times-over s g K)
    (subst (λ (k : ℕ). Close e (over s (g * K)) k (over s a) (below s a)) (times_below s g K) c)))
  where
    short : (o n m : ℕ) → m < o → m ≡ min o n → m ≡ n
    short o n m h e = omega arith
