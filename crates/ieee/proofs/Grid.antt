-- The rounding of a fraction keeps the order, in units of the format's smallest value, overflow or not; and it changes nothing at a value of the format.
use mathlib.Core.Path.{◌≡◌, refl, sym, ap, ◌∙◌, subst}
use mathlib.Core.Logic.{inl, inr}
use Prim.Native.Nat.{ℕ, suc, ◌+◌, ◌-◌, ◌*◌, ◌/◌, ◌%◌, ◌^◌, ◌≤◌, ◌<◌, min, zero-le, compare}
use native.Mathlib.Nat.{le_trans, le_of_eq, lt_of_le_of_lt, eq-or-lt_of_le, mul_assoc, mul_right_comm, mul-le-mul_right, le-div_iff_mul-le}
use native.Mathlib.Nat.{div-div-eq-div-mul, mul-pos, mul-div_cancel, eq_of_mul-eq-mul_right}
use native.Mathlib.Omega.{arith}
use mathlib.Core.Bool.{Bool, true, false, not, cond}
use lib.Dec.{T, ltb, ltb→lt, nltb→le}
use lib.Pow.{pow-add, pow_pos, pow_mono}
use lib.Ieee.{Float, nan, inf, fin, Format, prec, low, up, down, size, odd, units, round}
use lib.Ieee.Digits.{size-lt, size-le, size_reaches}
use lib.Ieee.Fits.{kept-lt, nearest-le, round_is, two, two-le_pos, down_pos}
use lib.Ieee.Exact.{HasValue, odd_sign, round_exact}
use lib.Ieee.Nearest.{closest, closest_mono, nearest-ge, div_mono}
use lib.Ieee.Order.{drop, kept}
use lib.Ieee.Scale.{grid, overflow}
use Rattle.ieee.specs.Units.{sign, mag, is_num}

-- ---- a number's digits
size_mono : (a b : ℕ) → a ≤ b → size a ≤ size b
size_mono a b h = size-le a (size b) (lt_of_le_of_lt h (size-lt b))

same_drop : (k a b c d : ℕ) → 0 < b → 0 < d → a * d ≤ c * b → closest a (b * 2 ^ k) * 2 ^ k ≤ closest c (d * 2 ^ k) * 2 ^ k
same_drop k a b c d B D h =
    mul-le-mul_right (2 ^ k)
    (closest_mono a (b * 2 ^ k) c (d * 2 ^ k) (mul-pos B (pow_pos k)) (mul-pos D (pow_pos k))
    (le_trans (le_of_eq (sym (mul_assoc a d (2 ^ k)))) (le_trans (mul-le-mul_right (2 ^ k) h) (le_of_eq (mul_assoc c b (2 ^ k))))))

kept-le : (p n den : ℕ) → kept p n den ≤ 2 ^ p
kept-le p n den =
    let k = drop p n den in
    let u = den * 2 ^ k in
    le_trans (nearest-le (n / u) (compare (n % u * 2) u)) (subst (λ (x : ℕ). x < 2 ^ p) (div-div-eq-div-mul n den (2 ^ k)) (kept-lt p (n / den)))

all_in_use : (z p : ℕ) → 0 < p → 0 < z - p → p - 1 + (z - p) < z
all_in_use z p P h = omega arith

-- where digits are dropped, the kept number has at least p digits
kept_ge : (p n den : ℕ) → 0 < p → 0 < drop p n den → 2 ^ (p - 1) ≤ kept p n den
kept_ge p n den P K =
    let k = drop p n den in
    let u = den * 2 ^ k in
    let w = n / den in
    let a : 2 ^ (p - 1) * 2 ^ k ≤ w = le_trans (le_of_eq (sym (pow-add 2 (p - 1) k))) (size_reaches w (p - 1 + k) (all_in_use (size w) p P K)) in
    le_trans (subst (λ (x : ℕ). 2 ^ (p - 1) ≤ x) (div-div-eq-div-mul n den (2 ^ k)) ((le-div_iff_mul-le (pow_pos k)).1 a))
    (nearest-ge (n / u) (compare (n % u * 2) u))

fewer : (x y p : ℕ) → x ≤ y → x - p ≤ y - p
fewer x y p h = omega arith

room : (p j k : ℕ) → 0 < p → j < k → p + j ≤ p - 1 + k
room p j k P h = omega arith

-- Either both drop as many digits, and then the kept numbers are in order. Or the smaller drops fewer, and then a power of two lies between the two results.
grid_mono : (p a b c d : ℕ) → 0 < p → 0 < b → 0 < d → a * d ≤ c * b → kept p a b * 2 ^ drop p a b ≤ kept p c d * 2 ^ drop p c d
grid_mono p a b c d P B D h =
    let j = drop p a b in
    let k = drop p c d in
    elim (eq-or-lt_of_le (fewer (size (a / b)) (size (c / d)) p (size_mono (a / b) (c / d) (div_mono a b c d B D h)))) [
      | inl e ↦ subst (λ (x : ℕ). closest a (b * 2 ^ x) * 2 ^ x ≤ kept p c d * 2 ^ k) (sym e) (same_drop k a b c d B D h)
      | inr l ↦
          le_trans (mul-le-mul_right (2 ^ j) (kept-le p a b))
          (le_trans (le_of_eq (sym (pow-add 2 p j)))
          (le_trans (pow_mono (room p j k P l))
          (le_trans (le_of_eq (pow-add 2 (p - 1) k)) (mul-le-mul_right (2 ^ k) (kept_ge p c d P (lt_of_le_of_lt zero-le l))))))
    ]

-- ---- in units of the format
pub grid-le : (f : Format) (a b c d : ℕ) → 0 < b → 0 < d → a * d ≤ c * b → grid f a b ≤ grid f c d
grid-le f a b c d B D h =
    let l = 2 ^ low f in
    grid_mono (prec f) (a * l) b (c * l) d (two-le_pos (prec f) (two f)) B D
    (le_trans (le_of_eq (mul_right_comm a l d)) (le_trans (mul-le-mul_right l h) (le_of_eq (mul_right_comm c b l))))

-- a value of n units
pub mag_of_value : (f : Format) (x : Float) (s : Bool) (n : ℕ) → HasValue x s n (2 ^ low f) → mag f x ≡ n
mag_of_value f nan s n h = absurd h
mag_of_value f (inf t) s n h = absurd h
mag_of_value f (fin t m e) s n h = rw h.1 (mul-div_cancel n (down_pos e))

pub sign_of_value : (x : Float) (s : Bool) (n c : ℕ) → HasValue x s n c → sign x ≡ s
sign_of_value nan s n c h = absurd h
sign_of_value (inf t) s n c h = absurd h
sign_of_value (fin t m e) s n c h = h.0

num_of_value : (x : Float) (s : Bool) (n c : ℕ) → HasValue x s n c → T (is_num x)
num_of_value nan s n c h = absurd h
num_of_value (inf t) s n c h = absurd h
num_of_value (fin t m e) s n c h = tt

-- ---- what `round` makes: the sign that it is handed, and the rounded number of units, up to overflow
pub record Rounded (f : Format) (s : Bool) (n : ℕ) (x : Float) : Type 0 where
  pub number : T (is_num x)
  pub signed : sign x ≡ s
  pub size_is : mag f x ≡ min (overflow f) n

least : (a b : ℕ) → a < b → a ≡ min b a
least a b h = omega arith

most : (a b : ℕ) → b ≤ a → b ≡ min b a
most a b h = omega arith

units_rounded : (f : Format) (s : Bool) (q k : ℕ) → Rounded f s (q * 2 ^ k) (units f s q k)
unfolding units
units_rounded f s q k = go (ltb (q * 2 ^ k) (overflow f)) (ltb→lt (q * 2 ^ k) (overflow f)) (nltb→le (q * 2 ^ k) (overflow f))
  where
    go : (b : Bool) → (T b → q * 2 ^ k < overflow f) → (T (not b) → overflow f ≤ q * 2 ^ k) → Rounded f s (q * 2 ^ k)
        (cond b (odd (suc (prec f)) s q k (low f)) (inf s))
    go true h g =
        let v = odd_sign (suc (prec f)) s q k (low f) in
        let x = odd (suc (prec f)) s q k (low f) in
        record {
          number = num_of_value x s (q * 2 ^ k) (2 ^ low f) v;
          signed = sign_of_value x s (q * 2 ^ k) (2 ^ low f) v;
          size_is = mag_of_value f x s (q * 2 ^ k) v ∙ least (q * 2 ^ k) (overflow f) (h tt);
        }
    go false h g = record { number = tt; signed = refl; size_is = most (q * 2 ^ k) (overflow f) (g tt) }

pub rounded : (f : Format) (s : Bool) (a c : ℕ) → Rounded f s (grid f a c) (round f s a c)
rounded f s a c = subst (λ (x : Float). Rounded f s (grid f a c) x) (sym (round_is f s a c))
    (units_rounded f s (kept (prec f) (a * 2 ^ low f) c) (drop (prec f) (a * 2 ^ low f) c))

-- ---- q * 2 ^ j units are a value of the format
under : (g o n : ℕ) → n < o → n ≡ min o g → g ≡ n
under g o n h e = omega arith

exact-units : (f : Format) (x : Float) (a c n : ℕ) → 0 < c → a * 2 ^ low f ≡ n * c → HasValue x false a c → HasValue x false n (2 ^ low f)
exact-units f nan a c n C e h = absurd h
exact-units f (inf t) a c n C e h = absurd h
exact-units f (fin t m d) a c n C e h = (
  h.0,
  eq_of_mul-eq-mul_right c C (m * up d * 2 ^ low f) (n * down d)
      (mul_right_comm (m * up d) (2 ^ low f) c ∙ ap (λ (z : ℕ). z * 2 ^ low f) h.1 ∙ mul_right_comm a (down d) (2 ^ low f) ∙ ap
      (λ (z : ℕ). z * down d) e ∙ mul_right_comm n c (down d)),
)

pub grid-exact : (f : Format) (a c q j : ℕ) → 0 < c → q < 2 ^ prec f → q * 2 ^ j < overflow f → a * 2 ^ low f ≡ q * 2 ^ j * c → grid f a c ≡ q * 2 ^ j
grid-exact f a c q j C small fine e =
    let v = exact-units f (round f false a c) a c (q * 2 ^ j) C e (round_exact f false a c q j C small fine e) in
    under (grid f a c) (overflow f) (q * 2 ^ j) fine (sym (mag_of_value f (round f false a c) false (q * 2 ^ j) v) ∙ (rounded f false a c).size_is)
