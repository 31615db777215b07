-- Counts there and back: what is read as a count is how its number is written, and what is written as a count, and followed by no digit, is read.
use borrow.Author.Tests.{ltb-true, leb-true, lt-ltb, le-ltb, le-leb, eq-eqb, ne_eqb}
use Prim.Native.Nat.{ℕ, zero, suc, ◌+◌, ◌-◌, ◌^◌, ◌≤◌, ◌<◌}
use mathlib.Core.Path.{◌≡◌, refl, sym, ap, ◌∙◌}
use mathlib.Core.Bool.{Bool, true, false, not, ◌&&◌, ◌||◌}
use mathlib.Core.List.{List}
use native.Mathlib.Nat.{mul-le-mul_right, pow-suc, pow-zero}
use native.Mathlib.Decide.{dec_lt}
use native.Mathlib.Omega.{arith}
use lib.Dec.{leb, ltb, eqb}
use lib.ListN.{length}
use Rattle.seq.specs.Lists.{part}
use Rattle.fields.specs.Bytes.{byte_at}
use Rattle.fields.specs.Digits.{is_digit, digit_value, number_at, digits_of}
use Rattle.fields.specs.Fields.{digits_from, width_at, is_count, has_count, count_at}
use Rattle.fields.specs.Texts.{width_of, count_text}
use Rattle.fields.proofs.Values.{Says, digit_range, digit_value_lem, digit_says, says_digit, says_positive}
use Rattle.seq.proofs.Choosing.{both}
use Rattle.fields.proofs.Widths.{Tight, digits_most, width_least, width_tight, width_is, width_ten}
use Rattle.fields.proofs.Turns.{more-from, none_from}
use Rattle.fields.proofs.Numerals.{inside, number_below, digits_of_number, number_of_digits, digits_say}

-- the digits that are counted are digits
pub from_digits : (t : List ℕ) (i k j : ℕ) → j < digits_from t i k → is_digit (byte_at t (i + j)) ≡ true
from_digits t i zero j h = absurd (omega (arith, digits_most t i 0))
from_digits t i (suc k) j h = go (is_digit (byte_at t i)) refl j h (from_digits t (suc i) k)
  where
    go : (s : Bool) → is_digit (byte_at t i) ≡ s → (n : ℕ) → n < digits_from t i (suc k)
        → ((m : ℕ) → m < digits_from t (suc i) k → is_digit (byte_at t (suc i + m)) ≡ true) → is_digit (byte_at t (i + n)) ≡ true
    go false e n l r = absurd (omega (arith, none_from t i k e))
    go true e zero l r =
        let p : i + 0 ≡ i = omega arith in
        rw p e
    go true e (suc m) l r =
        let p : i + suc m ≡ suc i + m = omega arith in
        rw p (r m (omega (arith, more-from t i k e)))

-- they stop where there is none, unless all that are counted are there
pub from-stops : (t : List ℕ) (i k : ℕ) → digits_from t i k < k → is_digit (byte_at t (i + digits_from t i k)) ≡ false
from-stops t i zero h = absurd (omega arith)
from-stops t i (suc k) h = go (is_digit (byte_at t i)) refl (from-stops t (suc i) k)
  where
    go : (s : Bool) → is_digit (byte_at t i) ≡ s → (digits_from t (suc i) k < k → is_digit (byte_at t (suc i + digits_from t (suc i) k)) ≡ false)
        → is_digit (byte_at t (i + digits_from t i (suc k))) ≡ false
    go false e r =
        let p : i + digits_from t i (suc k) ≡ i = omega (arith, none_from t i k e) in
        rw p e
    go true e r =
        let n : digits_from t i (suc k) ≡ suc (digits_from t (suc i) k) = more-from t i k e in
        let p : i + digits_from t i (suc k) ≡ suc i + digits_from t (suc i) k = omega arith in
        rw p (r (omega arith))

-- w digits and then none, of fewer than are counted
pub from_is : (t : List ℕ) (i k w : ℕ) → w < k → ((j : ℕ) → j < w → is_digit (byte_at t (i + j)) ≡ true) → is_digit (byte_at t (i + w)) ≡ false
    → digits_from t i k ≡ w
from_is t i zero w h d e = absurd (omega arith)
from_is t i (suc k) zero h d e =
    let p : i + 0 ≡ i = omega arith in
    none_from t i k (rw p at e)
from_is t i (suc k) (suc w) h d e =
    let p : i + 0 ≡ i = omega arith in
    let q : (n : ℕ) → i + suc n ≡ suc i + n = λ n. omega arith in
    more-from t i k (rw p at (d 0 (omega arith)))
    ∙ ap suc (from_is t (suc i) k w (omega arith) (λ j g. rw (q j) at (d (suc j) (omega arith))) (rw (q w) at e))

-- a number with a leading digit that is not 0
number_least : (base : ℕ) (t : List ℕ) (i k : ℕ) → 1 ≤ digit_value (byte_at t i) → base ^ k ≤ number_at base t i (suc k)
unfolding number_at
number_least base t i zero h =
    let p : i + 0 ≡ i = omega arith in
    rw p (omega (arith, pow-zero base))
number_least base t i (suc k) h = omega (arith, pow-suc base k, mul-le-mul_right base (number_least base t i k h))

-- a number with a leading 0
number_led : (base : ℕ) (t : List ℕ) (i k : ℕ) → digit_value (byte_at t i) ≡ 0 → ((j : ℕ) → j < suc k → Says base (byte_at t (i + j)))
    → number_at base t i (suc k) < base ^ k
unfolding number_at
number_led base t i zero h s =
    let p : i + 0 ≡ i = omega arith in
    rw p (omega (arith, pow-zero base))
number_led base t i (suc k) h s =
    omega (arith, pow-suc base k, (s (suc k) (omega arith)).below, mul-le-mul_right base (number_led base t i k h (λ j g. s j (omega arith))))

-- what stands at i is the count v, w digits long, and no digit follows it
pub record Count (t : List ℕ) (i w v : ℕ) : Type 0 where
  pub wide : w ≡ width_of v
  pub text : part i w t ≡ count_text v
  pub most : v ≤ 4294967295
  pub within : i + w ≤ length t
  pub stops : is_digit (byte_at t (i + w)) ≡ false

-- of two digits or more the first is not 0
lead : (w b : ℕ) → (ltb w 2 || not (eqb b 48)) ≡ true → 2 ≤ w → b ≡ 48 → ⊥
lead w b h g e =
    let z : (false || not true) ≡ true = rw (le-ltb w 2 g, eq-eqb b 48 e) at h in
    let n : ◌≡◌ {A = ℕ} 0 1 = cc in
    omega arith

counted : (t : List ℕ) (i m v : ℕ) → m < 10 → v ≡ number_at 10 t i (suc m) → ((j : ℕ) → j < suc m → is_digit (byte_at t (i + j)) ≡ true)
    → (0 < m → byte_at t i ≡ 48 → ⊥) → width_of v ≡ suc m
counted t i m v h e d l =
    let p : i + 0 ≡ i = omega arith in
    let s : is_digit (byte_at t i) ≡ true = rw p at (d 0 (omega arith)) in
    let r = digit_range (byte_at t i) s in
    width_is 19 m v (omega arith) (rw e (number_below 10 t i (suc m) (λ j g. digit_says (byte_at t (i + j)) (d j g))))
    (λ g. let q : byte_at t i ≡ 48 → ⊥ = l g in rw e (number_least 10 t i m (omega (arith, digit_value_lem (byte_at t i) s))))

count-plain : (t : List ℕ) (i w v : ℕ) → w ≡ digits_from t i 11 → v ≡ number_at 10 t i w → is_count t i w v ≡ true → Count t i w v
count-plain t i w v e f h =
    let some = both (ltb 0 w) (ltb w 11 && ((ltb w 2 || not (eqb (byte_at t i) 48)) && leb v 4294967295)) h in
    let few = both (ltb w 11) ((ltb w 2 || not (eqb (byte_at t i) 48)) && leb v 4294967295) some.1 in
    let bare = both (ltb w 2 || not (eqb (byte_at t i) 48)) (leb v 4294967295) few.1 in
    let a : 0 < w = ltb-true 0 w some.0 in
    let b : w < 11 = ltb-true w 11 few.0 in
    let n : w ≡ suc (w - 1) = omega arith in
    let d : (j : ℕ) → j < w → is_digit (byte_at t (i + j)) ≡ true = λ j g. from_digits t i 11 j (omega arith) in
    let s : (j : ℕ) → j < w → Says 10 (byte_at t (i + j)) = λ j g. digit_says (byte_at t (i + j)) (d j g) in
    let q : width_of v ≡ suc (w - 1) =
    counted t i (w - 1) v (omega arith) (rw (← n) f) (λ j g. d j (omega arith)) (λ g. lead w (byte_at t i) bare.0 (omega arith)) in
    let l : w ≡ width_of v = omega arith in
    record {
      wide = l;
      text = digits_of_number 10 t i w s ∙ ap (λ (x : ℕ). digits_of 10 x w) (sym f) ∙ ap (digits_of 10 v) l;
      most = leb-true v 4294967295 bare.1;
      within = omega (arith, inside t (i + (w - 1)) (says_positive (s (w - 1) (omega arith))));
      stops = rw e (from-stops t i 11 (omega arith));
    }

-- what is read as a count is how its number is written
pub count_text_lem : (t : List ℕ) (i : ℕ) → has_count t i ≡ true → Count t i (width_at t i) (count_at t i).value
count_text_lem t i h = count-plain t i (width_at t i) (number_at 10 t i (width_at t i)) refl refl h

-- four tests that hold, hold together
all_four : (a b c d : Bool) → a ≡ true → b ≡ true → c ≡ true → d ≡ true → (a && (b && (c && d))) ≡ true
all_four a b c d p q r s = rw (p, q, r, s)

-- a number of two digits or more is not written with a leading 0
no_lead : (t : List ℕ) (i w v : ℕ) → Tight v w → number_at 10 t i w ≡ v → ((j : ℕ) → j < w → Says 10 (byte_at t (i + j)))
    → (ltb w 2 || not (eqb (byte_at t i) 48)) ≡ true
no_lead t i w v r e s = go (dec_lt w 2)
  where
    go : Dec (w < 2) → (ltb w 2 || not (eqb (byte_at t i) 48)) ≡ true
    go (yes g) = rw (lt-ltb w 2 g)
    go (no g) =
        let m : 0 < r.m = omega (arith, r.is) in
        let low : 10 ^ r.m ≤ v = r.least (r.some m) in
        let n : number_at 10 t i (suc r.m) ≡ v = rw (← r.is) e in
        let never : byte_at t i ≡ 48 → ⊥ =
        λ f. omega (arith, number_led 10 t i r.m (ap digit_value f) (λ j h. s j (omega (arith, r.is)))) in
        rw (le-ltb w 2 (omega arith), ne_eqb (byte_at t i) 48 never)

-- a field that is read as the count v, w digits long
pub record ReadAs (t : List ℕ) (i w v : ℕ) : Type 0 where
  pub ok : has_count t i ≡ true
  pub value : (count_at t i).value ≡ v
  pub next : (count_at t i).next ≡ i + w
  pub width : width_at t i ≡ w
  pub number : number_at 10 t i w ≡ v

-- what is written as a count, and followed by no digit, is read
pub text_count : (v : ℕ) (t : List ℕ) (i : ℕ) → v ≤ 4294967295 → part i (width_of v) t ≡ count_text v → is_digit (byte_at t (i + width_of v)) ≡ false
    → ReadAs t i (width_of v) v
text_count v t i h e f =
    let r : Tight v (width_of v) = width_tight 19 v (omega arith) in
    let b : v < 10 ^ width_of v = rw r.is r.below in
    let few : width_of v ≤ 10 = width_ten v (omega arith) in
    let s : (j : ℕ) → j < width_of v → Says 10 (byte_at t (i + j)) = digits_say 10 v t i (width_of v) (omega arith) (omega arith) e in
    let n : number_at 10 t i (width_of v) ≡ v = number_of_digits 10 v t i (width_of v) (omega arith) (omega arith) b e in
    let w : width_at t i ≡ width_of v = from_is t i 11 (width_of v) (omega arith) (λ j g. says_digit (s j g)) f in
    let value : number_at 10 t i (width_at t i) ≡ v = ap (number_at 10 t i) w ∙ n in
    let all : is_count t i (width_of v) v ≡ true =
    all_four (ltb 0 (width_of v)) (ltb (width_of v) 11) (ltb (width_of v) 2 || not (eqb (byte_at t i) 48)) (leb v 4294967295)
    (lt-ltb 0 (width_of v) (width_least v)) (lt-ltb (width_of v) 11 (omega arith)) (no_lead t i (width_of v) v r n s) (le-leb v 4294967295 h) in
    record { ok = rw (value, w) all; value = value; next = ap (λ (k : ℕ). i + k) w; width = w; number = n }
