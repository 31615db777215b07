-- How many digits there can be, written and read, by the fuel of the definitions; and between which powers of ten a number of so many digits stands.
use borrow.Author.Tests.{lt-ltb, le-ltb}
use Prim.Native.Nat.{ℕ, zero, suc, ◌+◌, ◌*◌, ◌/◌, ◌^◌, ◌≤◌, ◌<◌}
use mathlib.Core.Path.{◌≡◌, refl, ap, ◌∙◌}
use mathlib.Core.Bool.{Bool, true, false}
use mathlib.Core.List.{List}
use native.Mathlib.Nat.{pow-suc, one-le-pow}
use native.Mathlib.Decide.{dec_lt}
use native.Mathlib.Omega.{arith}
use lib.Dec.{ltb}
use lib.ListN.{length, length-append}
use Rattle.seq.specs.Choice.{pick}
use Rattle.fields.specs.Bytes.{byte_at}
use Rattle.fields.specs.Digits.{is_digit, digits_of}
use Rattle.fields.specs.Fields.{digits_from, width_at, count_at}
use Rattle.fields.specs.Texts.{width_in, width_of, bits_text, count_text}

-- k digits are k long
pub length_digits : (base x k : ℕ) → length (digits_of base x k) ≡ k
unfolding digits_of
length_digits base x zero = refl
length_digits base x (suc k) =
    length-append (digits_of base (x / base) k) _ ∙ omega (arith, length_digits base (x / base) k)

pub length-bits : (x : ℕ) → length (bits_text x) ≡ 16
length-bits x = length_digits 16 x 16

pub length-count : (x : ℕ) → length (count_text x) ≡ width_of x
length-count x = length_digits 10 x (width_of x)

-- a number below ten has one digit
pub one_wide : (k x : ℕ) → x < 10 → width_in k x ≡ 1
unfolding width_in
one_wide zero x h = refl
one_wide (suc k) x h = ap (λ (s : Bool). pick s 1 (suc (width_in k (x / 10)))) (lt-ltb x 10 h)

-- a number from ten on has one digit more than its tenth
pub more_wide : (k x : ℕ) → 10 ≤ x → width_in (suc k) x ≡ suc (width_in k (x / 10))
unfolding width_in
more_wide k x h = ap (λ (s : Bool). pick s 1 (suc (width_in k (x / 10)))) (le-ltb x 10 h)

-- a choice of two numbers, each at least a and at most b, is
pick-between : (t : Bool) (a b x y : ℕ) → a ≤ x → x ≤ b → a ≤ y → y ≤ b → (a ≤ pick t x y) × (pick t x y ≤ b)
pick-between true a b x y h g e f = (h, g)
pick-between false a b x y h g e f = (e, f)

-- a number has at least one digit, and at most as many as are counted
pub width_between : (k x : ℕ) → (1 ≤ width_in k x) × (width_in k x ≤ suc k)
unfolding width_in
width_between zero x = (omega arith, omega arith)
width_between (suc k) x =
    let r = width_between k (x / 10) in
    pick-between (ltb x 10) 1 (suc (suc k)) 1 (suc (width_in k (x / 10))) (omega arith) (omega arith) (omega arith) (omega (arith, r.1))

pub width_least : (x : ℕ) → 1 ≤ width_of x
width_least x = (width_between 19 x).0

pub width_most : (x : ℕ) → width_of x ≤ 20
width_most x = omega (arith, (width_between 19 x).1)

-- of at most k digits at most k stand at i
pub digits_most : (t : List ℕ) (i k : ℕ) → digits_from t i k ≤ k
unfolding digits_from
digits_most t i zero = omega arith
digits_most t i (suc k) =
    let r = digits_most t (suc i) k in
    (pick-between (is_digit (byte_at t i)) 0 (suc k) (suc (digits_from t (suc i) k)) 0 (omega arith) (omega (arith, r)) (omega arith) (omega arith)).1

pub width_at-most : (t : List ℕ) (i : ℕ) → width_at t i ≤ 11
width_at-most t i = digits_most t i 11

-- a count ends at most eleven bytes on
pub count_next : (t : List ℕ) (i : ℕ) → (count_at t i).next ≤ i + 11
count_next t i = omega (arith, width_at-most t i)

-- a number and how many digits it has: below the power of ten, and from the one before it on
pub record Tight (x w : ℕ) : Type 0 where
  pub m : ℕ
  pub is : w ≡ suc m
  pub below : x < 10 ^ suc m
  pub least : 1 ≤ x → 10 ^ m ≤ x
  pub some : 0 < m → 1 ≤ x

one_tight : (x w : ℕ) → x < 10 → w ≡ 1 → Tight x w
one_tight x w h e = record { m = 0; is = e; below = h; least = λ g. g; some = λ g. absurd (omega arith) }

more_tight : (x w v : ℕ) → 10 ≤ x → v ≡ suc w → Tight (x / 10) w → Tight x v
more_tight x w v h e r =
    record {
      m = suc r.m;
      is = omega (arith, r.is);
      below = omega (arith, r.below, pow-suc 10 (suc r.m));
      least = λ g. omega (arith, r.least (omega arith), pow-suc 10 r.m);
      some = λ g. omega arith;
    }

pub width_tight : (k x : ℕ) → x < 10 ^ suc k → Tight x (width_in k x)
width_tight zero x h = one_tight x (width_in 0 x) h (one_wide 0 x h)
width_tight (suc k) x h = go (dec_lt x 10) (width_tight k (x / 10) (omega (arith, pow-suc 10 (suc k))))
  where
    go : Dec (x < 10) → Tight (x / 10) (width_in k (x / 10)) → Tight x (width_in (suc k) x)
    go (yes g) r = one_tight x (width_in (suc k) x) g (one_wide (suc k) x g)
    go (no g) r = more_tight x (width_in k (x / 10)) (width_in (suc k) x) (omega arith) (more_wide k x (omega arith)) r

-- a number has that many digits between whose powers of ten it stands
pub width_is : (k m x : ℕ) → m ≤ k → x < 10 ^ suc m → (0 < m → 10 ^ m ≤ x) → width_in k x ≡ suc m
width_is k zero x h g e = one_wide k x g
width_is zero (suc m) x h g e = absurd (omega arith)
width_is (suc k) (suc m) x h g e =
    let low : 10 ^ m * 10 ≤ x = rw (pow-suc 10 m) at (e (omega arith)) in
    let one : 1 ≤ 10 ^ m = one-le-pow m 10 (omega arith) in
    more_wide k x (omega arith)
    ∙ ap suc (width_is k m (x / 10) (omega arith) (omega (arith, pow-suc 10 (suc m))) (λ p. omega arith))

-- a number below 10 ^ 10 has at most ten digits
pub width_ten : (x : ℕ) → x < 10 ^ 10 → width_of x ≤ 10
width_ten x h =
    let r = width_tight 9 x h in
    let b = width_between 9 x in
    let e : width_of x ≡ suc r.m = width_is 19 r.m x (omega (arith, r.is)) r.below (λ g. r.least (r.some g)) in
    omega (arith, r.is)
